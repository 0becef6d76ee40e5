-- Where a session stands: its fields against the state of the rules.
use Rattle.std.specs.Prelude.{◌≡◌, ℕ, List, Option, None, length, replicate, take, unwrap_or}
use Rattle.tp_base.specs.Tables.{nth}
use Rattle.tp_ops.specs.declared.operation.Answer.{Answer}
use Rattle.tp_rules.specs.Acts.{Act, Client, Identity, SessionOf}
use Rattle.tp_rules.specs.Session.{SessionState, open_count, state_after}
use Rattle.tp_session.specs.declared.session.Session.{Session}

-- what a session was made with
abbrev pub client : Session → Client
client s = record { session = s.id; home = s.home.0; window = s.window; commands = s.commands }

abbrev pub identity : Session → Identity
identity s = SessionOf s.topology (client s)

-- the answers kept for a command's number, of up to four partitions
abbrev pub parts_at : List (List (Option (List Answer))) → ℕ → List (Option (List Answer))
parts_at kept n = unwrap_or (nth kept n) (replicate 4 None)

-- the same, with a place for each partition that there is
abbrev pub table : Session → ℕ → List (Option (List Answer))
table s n = take s.topology.partitions (parts_at s.kept.items n)

-- a session's fields say what a state of the rules says
pub record IsState (s : Session) (state : SessionState) : Type 0 where
  pub submitted : length s.kept.items ≡ state.submitted
  pub kept : (n : ℕ) → table s n ≡ state.kept n
  pub unanswered : s.unanswered ≡ open_count s.topology (client s) state

abbrev pub Stands : Session → List Act → Type 0
Stands s acts = IsState s (state_after s.topology (client s) acts)
