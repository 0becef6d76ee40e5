use Rattle.std.proofs.Common.{◌≤◌, ◌+◌, if◌then◌else◌, List, ℕ, Bool, [], length, sym, ap, subst, ◌∙◌}
use Rattle.tp_text.specs.Lines.{words_of}
use Rattle.tp_text.proofs.Joined.{few_pieces}
use Rattle.tp_text.proofs.words.Words.most.Goals as goal

pub returns-then-self-clause-bound : goal.returns-then-self-clause-bound
returns-then-self-clause-bound c =
    let rest : List ℕ = c.self.inside.rest.now in
    let words = ap (λ (more : Bool). if more then words_of rest else []) (sym c.if-self.true) ∙ c.self.view_is in
    subst (λ (ws : List (List ℕ)). length ws ≤ length rest + 1) words (few_pieces 32 rest)
