-- The script of a number: the commands of four sessions on sixteen keys, in turn, and picks that go round.
use Rattle.std.specs.Prelude.{ℕ, ◌+◌, ◌-◌, ◌*◌, ◌/◌, ◌%◌, ◌==◌, if◌then◌else◌, List, [], ◌∷◌, map}
use Rattle.tp_base.specs.Fields.{big_endian}
use Rattle.tp_base.specs.declared.names.Rank.{Rank}
use Rattle.tp_ops.specs.declared.command.Command.{Command}
use Rattle.tp_ops.specs.declared.operation.Op.{Op}
use Rattle.tp_ops.specs.declared.operation.Op.TheVariants.{Get, Put, Del, Cas}
use Rattle.tp_script.specs.declared.script.Script.{Script}
use Rattle.tp_topology.specs.Counting.{up_to}
use Rattle.tp_topology.specs.Shape.{Shape}

-- two partitions of three replicas, of which one may fail
abbrev pub shape : Shape
shape = record { partitions = 2; replicas = 3; failures = 1 }

-- the home of a session: ranks 1 to 3 in turn
abbrev pub home : ℕ → Rank
home s = record { 0 = (s - 1) % 3 + 1 }

-- the session of the i-th command: 1 to 4 in turn
abbrev pub session : ℕ → ℕ
session i = (i - 1) % 4 + 1

-- the key of one letter: so many behind `a`
abbrev pub letter : ℕ → List ℕ
letter x = (97 + x) ∷ []

-- the place of the i-th command's key among sixteen letters
abbrev pub place : ℕ → ℕ → ℕ
place n i = (n + 7 * i) % 16

-- the value of the i-th command: i in two bytes
abbrev pub value : ℕ → List ℕ
value i = big_endian 2 i

-- five sorts of commands in turn
abbrev pub ops : ℕ → ℕ → List Op
ops n i =
    if i % 5 == 1 then Put (letter (place n i)) (value i) ∷ []
    else if i % 5 == 2 then Get (letter (place n i)) ∷ []
    else if i % 5 == 3 then Cas (letter (place n i)) (value 1) (value i) ∷ []
    else if i % 5 == 4 then Del (letter (place n i)) ∷ []
    else Put (letter (place n i)) (value i) ∷ Get (letter (place n i + 1)) ∷ []

-- the i-th command: the next of its session
abbrev pub command : ℕ → ℕ → Command
command n i = record {
  id = record { session = record { 0 = session i }; number = (i - 1) / 4 + 1 };
  home = home (session i);
  ops = ops n i;
}

abbrev pub pick : ℕ → ℕ → ℕ
pick n j = (n + 13 * j) % 50

-- 200 commands and 400 picks, and nothing goes wrong
unfoldable pub numbered_script : ℕ → Script
numbered_script n = record {
  topology = shape;
  homes = map home (up_to 4);
  commands = map (command n) (up_to 200);
  plan = [];
  picks = map (pick n) (up_to 400);
}
