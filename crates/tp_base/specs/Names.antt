use Rattle.std.specs.Prelude.{Bool, false, ◌&&◌, ◌||◌, ◌==◌, nat_lt}
use Rattle.tp_base.specs.declared.names.ActorName.{ActorName}
use Rattle.tp_base.specs.declared.names.ActorName.TheVariants.{Process, Executor, Session}
use Rattle.tp_base.specs.declared.names.CommandId.{CommandId}
use Rattle.tp_base.specs.declared.names.Key.{Key}
use Rattle.tp_base.specs.declared.names.Site.{Site}

-- both are the same command
abbrev pub same_id : CommandId → CommandId → Bool
same_id a b = (a.session.0 == b.session.0) && (a.number == b.number)

-- both are the same replica of the same partition
abbrev pub same_site : Site → Site → Bool
same_site a b = (a.partition.0 == b.partition.0) && (a.rank.0 == b.rank.0)

-- both are the same actor
abbrev pub same_name : ActorName → ActorName → Bool
same_name (Process a) (Process b) = same_site a b
same_name (Executor a) (Executor b) = same_site a b
same_name (Session a) (Session b) = a.0 == b.0
same_name _ _ = false

-- by session, then number
abbrev pub id_lt : CommandId → CommandId → Bool
id_lt a b = nat_lt a.session.0 b.session.0 || ((a.session.0 == b.session.0) && nat_lt a.number b.number)

-- by stamp, then identifier
abbrev pub key_lt : Key → Key → Bool
key_lt a b = nat_lt a.stamp.0 b.stamp.0 || ((a.stamp.0 == b.stamp.0) && id_lt a.id b.id)
