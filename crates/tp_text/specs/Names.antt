-- The words of names: sites, commands' identifiers, actors.
use Rattle.std.specs.Fmt.{decimal}
use Rattle.std.specs.Prelude.{ℕ, List, ◌∷◌, ◌++◌}
use Rattle.tp_base.specs.declared.names.ActorName.{ActorName}
use Rattle.tp_base.specs.declared.names.ActorName.TheVariants.{Process, Executor, Session}
use Rattle.tp_base.specs.declared.names.CommandId.{CommandId}
use Rattle.tp_base.specs.declared.names.Site.{Site}

-- two numbers with a point between them
abbrev pub dotted : ℕ → ℕ → List ℕ
dotted m n = decimal m ++ 46 ∷ decimal n

abbrev pub site_word : Site → List ℕ
site_word s = dotted s.partition.0 s.rank.0

abbrev pub id_word : CommandId → List ℕ
id_word i = dotted i.session.0 i.number

abbrev pub actor_word : ActorName → List ℕ
actor_word (Process s) = 112 ∷ site_word s
actor_word (Executor s) = 101 ∷ site_word s
actor_word (Session s) = 115 ∷ decimal s.0

-- what the two numbers name
abbrev pub site_at : ℕ × ℕ → Site
site_at pair = record { partition = record { 0 = pair.0 }; rank = record { 0 = pair.1 } }

abbrev pub id_at : ℕ × ℕ → CommandId
id_at pair = record { session = record { 0 = pair.0 }; number = pair.1 }
