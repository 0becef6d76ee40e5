-- What the processes settle in a whole journal: one final stamp for each command, and majorities that proposed it.
-- The laws of agreement prove it, and the laws of order start from it.
use Rattle.std.specs.Prelude.{nat_le, ℕ, ◌≡◌, ◌≤◌, Bool, true, false, List, Option, Some, None}
use Rattle.tp_base.specs.Lists.{IsIn}
use Rattle.tp_base.specs.declared.names.ActorName.TheVariants.{Process}
use Rattle.tp_base.specs.declared.names.CommandId.{CommandId}
use Rattle.tp_rules.specs.Addresses.{site}
use Rattle.tp_rules.specs.Journal.{acts}
use Rattle.tp_rules.specs.Outcome.{Commit, commits, command_of, accesses}
use Rattle.tp_rules.specs.Sheet.{Sheet, Proposed, ring_rule}
use Rattle.tp_rules.specs.declared.event.Entry.{Entry}
use Rattle.tp_script.specs.declared.script.Script.{Script}
use Rattle.tp_topology.specs.Counting.{count_up_to}
use Rattle.tp_topology.specs.Shape.{majority_size}
use Rattle.tp_rules.specs.Process as process

-- a proposal at or below a stamp
abbrev pub is_proposed : Option Proposed → ℕ → Bool
is_proposed None s = false
is_proposed (Some p) s = nat_le p.stamp s

-- what a process keeps of a command at the end of a journal
abbrev pub sheet_at : Script → List Entry → ℕ → ℕ → CommandId → Sheet
sheet_at script whole p rank id =
    let before = acts whole (Process (site p rank)) in
    (process.state_after (ring_rule script.topology) (site p rank) before).sheets id

pub record Settled (script : Script) (whole : List Entry) : Type 0 where
  -- one stamp for each command
  pub agreed : (a b : Commit) → IsIn a (commits whole) → IsIn b (commits whole) → a.id ≡ b.id → a.stamp ≡ b.stamp
  -- at a majority of each partition that it accesses, a committed command has a proposal at or below its stamp
  pub attached : (a : Commit) → IsIn a (commits whole) → (p : ℕ) → accesses script p (command_of script a.id) ≡ true
      → majority_size script.topology
      ≤ count_up_to (λ rank. is_proposed (sheet_at script whole p rank a.id).proposal a.stamp)
      script.topology.replicas
