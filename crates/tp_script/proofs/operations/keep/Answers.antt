use Rattle.std.proofs.Common.{[], ◌∷◌, sym, ◌∙◌, arith}
use Rattle.std.proofs.lemmas.List.{take-append-le, take_all}
use Rattle.tp_script.proofs.operations.keep.Goals as goal

pub returns-else-len-lt16-clause-kept : goal.returns-else-len-lt16-clause-kept
returns-else-len-lt16-clause-kept c =
    sym (take-append-le 16 c.args.ops.now (c.args.op ∷ []) (omega arith) ∙ take_all 16 c.args.ops.now c.requires)
