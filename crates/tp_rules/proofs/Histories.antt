-- A history with the plan is one without it. Used where a law of free runs is said of runs.
use Rattle.std.proofs.Common.{List, [], ◌∷◌}
use Rattle.tp_rules.specs.Runs.{IsHistory, IsFreeHistory}
use Rattle.tp_rules.specs.declared.event.Entry.{Entry}
use Rattle.tp_script.specs.declared.script.Script.{Script}

pub free_history : (script : Script) (older : List Entry) → IsHistory script older → IsFreeHistory script older
free_history script [] h = tt
free_history script (e ∷ older) h = (free_history script older h.0, h.1.rules)
