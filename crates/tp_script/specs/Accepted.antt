-- Which scripts there are: those that some text says.
use Rattle.std.specs.Prelude.{ℕ, ◌≡◌, ◌-◌, ◌^◌, ◌==◌, ◌&&◌, ◌≤◌, ◌<◌, Bool, true, false, List, [], ◌∷◌, Option, Some, None, length, filter, map, slice_get}
use Rattle.std.specs.List.{list_any}
use Rattle.tp_base.specs.Limits.{IsFrom}
use Rattle.tp_base.specs.Lists.{Each}
use Rattle.tp_base.specs.Names.{same_id, same_site, same_name}
use Rattle.tp_base.specs.declared.names.ActorName.{ActorName}
use Rattle.tp_base.specs.declared.names.ActorName.TheVariants.{Process, Executor, Session}
use Rattle.tp_base.specs.declared.names.Rank.{Rank}
use Rattle.tp_ops.specs.Limits.{IsCommand}
use Rattle.tp_ops.specs.declared.command.Command.{Command}
use Rattle.tp_script.specs.declared.script.PlanLine.{PlanLine}
use Rattle.tp_script.specs.declared.script.PlanLine.TheVariants.{Crash, Recover, Lose, Repeat, RepeatAll}
use Rattle.tp_script.specs.declared.script.Script.{Script}
use Rattle.tp_topology.specs.Counting.{up_to}
use Rattle.tp_topology.specs.Shape.{IsShape, IsSiteOf}

-- the commands of a session, in order
abbrev pub commands_by : ℕ → List Command → List Command
commands_by s commands = filter (λ c. c.id.session.0 == s) commands

-- the home of a session is that of each of its commands
abbrev pub IsHome : Option Rank → ℕ → Type 0
IsHome None home = ⊥
IsHome (Some rank) home = rank.0 ≡ home

-- a command of a declared session, with its home
abbrev pub IsCommandOf : List Rank → Command → Type 0
IsCommandOf homes c = IsCommand c × IsFrom 1 (length homes) c.id.session.0 × IsHome (slice_get homes (c.id.session.0 - 1)) c.home.0

-- the n-th command of a session has number n
abbrev pub AreNumbered : List Command → ℕ → Type 0
AreNumbered commands s = map (λ c. c.id.number) (commands_by s commands) ≡ up_to (length (commands_by s commands))

abbrev pub IsActorOf : Script → ActorName → Type 0
IsActorOf script (Process site) = IsSiteOf script.topology site
IsActorOf script (Executor site) = IsSiteOf script.topology site
IsActorOf script (Session s) = IsFrom 1 (length script.homes) s.0

-- a number of a script's text
abbrev pub IsCount : ℕ → Type 0
IsCount n = n < 2 ^ 32

-- a plan line of the script's sites, sessions and commands
abbrev pub IsPlanLineOf : Script → PlanLine → Type 0
IsPlanLineOf script (Crash site after) = IsSiteOf script.topology site × IsCount after
IsPlanLineOf script (Recover site id after) =
    IsSiteOf script.topology site × (list_any (λ c. same_id c.id id) script.commands ≡ true) × IsCount after
IsPlanLineOf script (Lose from to n) = IsActorOf script from × IsActorOf script to × (1 ≤ n) × IsCount n
IsPlanLineOf script (Repeat from to n times) = IsActorOf script from × IsActorOf script to × (1 ≤ n) × IsCount n × IsFrom 2 9 times
IsPlanLineOf script (RepeatAll times) = IsFrom 2 9 times

-- two lines of which a script has one at most: crashes of one site, fates of one message, `repeat all`
abbrev pub is_double : PlanLine → PlanLine → Bool
is_double (Crash a after) (Crash b after') = same_site a b
is_double (Lose from to n) (Lose from' to' n') = same_name from from' && same_name to to' && (n == n')
is_double (Lose from to n) (Repeat from' to' n' times) = same_name from from' && same_name to to' && (n == n')
is_double (Repeat from to n times) (Lose from' to' n') = same_name from from' && same_name to to' && (n == n')
is_double (Repeat from to n times) (Repeat from' to' n' times') = same_name from from' && same_name to to' && (n == n')
is_double (RepeatAll times) (RepeatAll times') = true
is_double _ _ = false

abbrev pub HasNoDoubles : List PlanLine → Type 0
HasNoDoubles [] = Unit {0}
HasNoDoubles (line ∷ lines) = (list_any (is_double line) lines ≡ false) × HasNoDoubles lines

-- some text says the script
pub record IsAccepted (script : Script) : Type 0 where
  pub shape : IsShape script.topology
  pub sessions : length script.homes ≤ 16
  pub homes : Each (λ home. IsFrom 1 script.topology.replicas home.0) script.homes
  pub count : length script.commands ≤ 1000
  pub commands : Each (IsCommandOf script.homes) script.commands
  pub numbered : (s : ℕ) → AreNumbered script.commands s
  pub lines : length script.plan ≤ 1000
  pub plan : Each (IsPlanLineOf script) script.plan
  pub doubles : HasNoDoubles script.plan
  pub few_picks : length script.picks ≤ 100000
  pub picks : Each IsCount script.picks
