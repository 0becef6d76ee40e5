-- What it is for a process to be where the rules leave it.
use Rattle.std.specs.Prelude.{◌≡◌, ◌≤◌, ◌<◌, ◌-◌, ◌==◌, ◌&&◌, ℕ, nat_lt, true, Bool, cond, List, [], ◌∷◌, Option, Some, None}
use Rattle.indexmap.specs.IndexMap.{IndexMap}
use Rattle.tp_base.specs.Limits.{STAMP_LIMIT, is_from}
use Rattle.tp_base.specs.Lists.{Each}
use Rattle.tp_base.specs.declared.names.ActorName.{ActorName}
use Rattle.tp_base.specs.declared.names.ActorName.TheVariants.{Process as OfProcess, Executor as OfExecutor}
use Rattle.tp_base.specs.declared.names.CommandId.{CommandId}
use Rattle.tp_base.specs.declared.names.Pair.{Pair}
use Rattle.tp_base.specs.declared.names.Site.{Site}
use Rattle.tp_choice.specs.declared.answer.RecoveryAnswer.{RecoveryAnswer}
use Rattle.tp_ops.specs.declared.command.Command.{Command}
use Rattle.tp_process.specs.Sheets.{sheet_at}
use Rattle.tp_process.specs.declared.process.Process.{Process}
use Rattle.tp_paxos.specs.Votes.{PutStamp}
use Rattle.tp_rules.specs.Acts.{Act, Identity, ProcessAt}
use Rattle.tp_rules.specs.Addresses.{message}
use Rattle.tp_rules.specs.Process.{Step, ProcessState, answer_with_old_proposal, state_after, untold}
use Rattle.tp_rules.specs.Sheet.{Sheet, is_fresh, ring_rule}
use Rattle.tp_sheet.specs.SiteSheet.{SiteSheet}
use Rattle.tp_topology.specs.Shape.{Shape}
use Rattle.tp_wire.specs.declared.message.Body.TheVariants.{MCommitted, MRecAck}
use Rattle.tp_wire.specs.declared.message.Message.{Message}

abbrev pub identity : Process → Identity
identity p = ProcessAt p.place.topology p.place.site

-- each stamp of a table is below the limit
abbrev pub AreLow : List (Option ℕ) → Type 0
AreLow [] = Unit {0}
AreLow (None ∷ table) = AreLow table
AreLow (Some t ∷ table) = (t < STAMP_LIMIT) × AreLow table

-- an answer's stamp, if any, is below the limit
abbrev pub IsLowAnswer : Option RecoveryAnswer → Type 0
IsLowAnswer None = Unit {0}
IsLowAnswer (Some a) = a.stamp.0 < STAMP_LIMIT

-- the stamp that is put, if any, is below the limit
abbrev pub IsLowPut : Option PutStamp → Type 0
IsLowPut None = Unit {0}
IsLowPut (Some put) = put.stamp < STAMP_LIMIT

-- a command's home, if any, is a rank of the shape
abbrev pub IsHomed : Shape → Option Command → Type 0
IsHomed shape None = Unit {0}
IsHomed shape (Some c) = is_from 1 shape.replicas c.home.0 ≡ true

-- what is kept of a command whose home is in the shape
pub record IsLow (shape : Shape) (sheet : Sheet) : Type 0 where
  pub home : IsHomed shape sheet.command
  pub known : AreLow sheet.known
  pub acknowledged : AreLow sheet.acknowledged
  pub put : IsLowPut sheet.put
  pub answers : Each IsLowAnswer sheet.answers

abbrev pub site_sheet : Shape → Site → Sheet → SiteSheet
site_sheet shape site sheet = record { shape = shape; site = site; sheet = sheet }

-- a clock, what is told, the promises not told yet and the sheets say what a state says, and no
-- stamp of the state has come to the limit
pub record Agrees {S : Type 0} (shape : Shape) (site : Site) (clock told : ℕ) (pairs : List Pair) (sheets : IndexMap CommandId SiteSheet S) (s : ProcessState) : Type 0 where
  pub clock_is : clock ≡ s.clock
  pub told_is : told ≡ s.told
  pub untold_is : pairs ≡ untold s
  pub attached : Each (λ pair. pair.stamp.0 ≤ s.clock) s.attached
  pub told_low : s.told ≤ s.clock
  pub room : s.clock < STAMP_LIMIT
  pub sheets_are : (id : CommandId) → sheet_at shape site sheets id ≡ site_sheet shape site (s.sheets id)
  pub low : (id : CommandId) → IsLow shape (s.sheets id)

-- the process has what the state says
abbrev pub IsState : Process → ProcessState → Type 0
IsState p s = Agrees p.place.topology p.place.site p.clock.clock p.clock.told p.untold p.sheets s

abbrev pub Stands : Process → List Act → Type 0
Stands p acts = IsState p (state_after (ring_rule p.place.topology) p.place.site acts)

-- what the process keeps of a command
abbrev pub sheet_of : Process → CommandId → SiteSheet
sheet_of p id = sheet_at p.place.topology p.place.site p.sheets id

-- whether the process proposes for a command, by the sheet and the clock
abbrev pub takes_proposal : Process → Command → Bool
takes_proposal p c = is_fresh (sheet_of p c.id).site.partition.0 (sheet_of p c.id).sheet && nat_lt p.clock.clock (STAMP_LIMIT - 1)

abbrev pub takes_submission : Process → Command → Bool
takes_submission p c = (c.home.0 == p.place.site.rank.0) && takes_proposal p c

-- what is told to a recovery at a ballot
abbrev pub answer_with : Site → ActorName → CommandId → ℕ → RecoveryAnswer → Message
answer_with me from id b told = message (OfProcess me) from (MRecAck id told.stamp told.made told.accepted b)

-- agreed to a ballot that is above the one agreed to before
abbrev pub agreed_above : Site → ActorName → Command → ℕ → ProcessState → Step
agreed_above me from c b s = cond (nat_lt (s.sheets c.id).ballot b) (answer_with_old_proposal me from c b (s.sheets c.id) s) (s, [])

-- the final stamp, told to the site's executor
abbrev pub committed : Site → Option Command → ℕ → List Message
committed site None t = []
committed site (Some c) t = message (OfProcess site) (OfExecutor site) (MCommitted c (record { 0 = t })) ∷ []

-- with all promises told
abbrev pub all_told : ProcessState → ProcessState
all_told s = record { clock = s.clock; told = s.clock; attached = s.attached; sheets = s.sheets }
