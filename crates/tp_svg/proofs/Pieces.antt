-- Text that goes on piece by piece. Used where shapes are written.
use Rattle.std.proofs.Common.{◌≡◌, ℕ, List, ◌++◌, ap, ◌∙◌, append_assoc}
use Rattle.tp_base.specs.declared.names.ActorName.{ActorName}
use Rattle.tp_svg.specs.Svg.{name, point, quoted, slanted}

-- one piece more
pub next : (old now new front piece : List ℕ) → now ≡ old ++ front → new ≡ now ++ piece → new ≡ old ++ (front ++ piece)
next old now new front piece before here = here ∙ ap (λ (l : List ℕ). l ++ piece) before ∙ append_assoc old front piece

-- a point, and an attribute, by what its numbers are
pub point_at : (old new : List ℕ) (a b c d : ℕ) → new ≡ old ++ point a b → a ≡ c → b ≡ d → new ≡ old ++ point c d
point_at old new a b c d here first second =
    here ∙ ap (λ (n : ℕ). old ++ point n b) first ∙ ap (λ (n : ℕ). old ++ point c n) second

pub quoted_at : (old new start : List ℕ) (a b : ℕ) → new ≡ old ++ quoted start a → a ≡ b → new ≡ old ++ quoted start b
quoted_at old new start a b here is = here ∙ ap (λ (n : ℕ). old ++ quoted start n) is

-- so many pieces
pub put2 : (old a b p q : List ℕ) → a ≡ old ++ p → b ≡ a ++ q
    → b ≡ old ++ (p ++ q)
put2 old a b p q ha hb = next old a b p q ha hb

pub put3 : (old a b c p q r : List ℕ) → a ≡ old ++ p → b ≡ a ++ q → c ≡ b ++ r
    → c ≡ old ++ ((p ++ q) ++ r)
put3 old a b c p q r ha hb hc =
    next old b c (p ++ q) r (put2 old a b p q ha hb) hc

pub put4 : (old a b c d p q r s : List ℕ) → a ≡ old ++ p → b ≡ a ++ q → c ≡ b ++ r → d ≡ c ++ s
    → d ≡ old ++ (((p ++ q) ++ r) ++ s)
put4 old a b c d p q r s ha hb hc hd =
    next old c d ((p ++ q) ++ r) s (put3 old a b c p q r ha hb hc) hd

pub put5 : (old a b c d e p q r s t : List ℕ) → a ≡ old ++ p → b ≡ a ++ q → c ≡ b ++ r → d ≡ c ++ s → e ≡ d ++ t
    → e ≡ old ++ ((((p ++ q) ++ r) ++ s) ++ t)
put5 old a b c d e p q r s t ha hb hc hd he =
    next old d e (((p ++ q) ++ r) ++ s) t (put4 old a b c d p q r s ha hb hc hd) he

pub put6 : (old a b c d e f p q r s t u : List ℕ) → a ≡ old ++ p → b ≡ a ++ q → c ≡ b ++ r → d ≡ c ++ s → e ≡ d ++ t → f ≡ e ++ u
    → f ≡ old ++ (((((p ++ q) ++ r) ++ s) ++ t) ++ u)
put6 old a b c d e f p q r s t u ha hb hc hd he hf =
    next old e f ((((p ++ q) ++ r) ++ s) ++ t) u (put5 old a b c d e p q r s t ha hb hc hd he) hf

pub put7 : (old a b c d e f g p q r s t u v : List ℕ) → a ≡ old ++ p → b ≡ a ++ q → c ≡ b ++ r → d ≡ c ++ s → e ≡ d ++ t → f ≡ e ++ u → g ≡ f ++ v
    → g ≡ old ++ ((((((p ++ q) ++ r) ++ s) ++ t) ++ u) ++ v)
put7 old a b c d e f g p q r s t u v ha hb hc hd he hf hg =
    next old f g (((((p ++ q) ++ r) ++ s) ++ t) ++ u) v (put6 old a b c d e f p q r s t u ha hb hc hd he hf) hg

-- two pieces that are one
pub two : (old a b c p q r : List ℕ) → a ≡ old ++ p → b ≡ a ++ q → c ≡ b ++ r → c ≡ old ++ (p ++ (q ++ r))
two old a b c p q r ha hb hc = put3 old a b c p q r ha hb hc ∙ ap (λ (l : List ℕ). old ++ l) (append_assoc p q r)

-- a name, by what its numbers are
pub name_at : (old new start : List ℕ) (a b c d : ℕ) (actor : ActorName) → new ≡ old ++ name start a b actor → a ≡ c → b ≡ d → new ≡ old ++ name start c d actor
name_at old new start a b c d actor here first second =
    here ∙ ap (λ (n : ℕ). old ++ name start n b actor) first ∙ ap (λ (n : ℕ). old ++ name start c n actor) second

-- the start of a slanted text, by where it stands
pub slanted_at : (old new start : List ℕ) (a b c d : ℕ) → new ≡ old ++ slanted start a b → a ≡ c → b ≡ d → new ≡ old ++ slanted start c d
slanted_at old new start a b c d here first second =
    here ∙ ap (λ (n : ℕ). old ++ slanted start n b) first ∙ ap (λ (n : ℕ). old ++ slanted start c n) second
