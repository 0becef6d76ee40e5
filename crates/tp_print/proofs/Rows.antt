-- What is written of a session's row, place by place.
use Rattle.std.proofs.Common.{◌≡◌, ℕ, suc, ◌≤◌, Bool, true, false, cond, Bor, List, [], ◌∷◌, length, Option, Some, None, is_some, unwrap_or, refl, sym, ap, subst, ◌∙◌, arith}
use Rattle.std.specs.List.{find}
use Rattle.std.specs.Option.{option_copied}
use Rattle.std.specs.Prelude.{is_none, slice_get}
use Rattle.tp_base.proofs.SameNames.{same_id_is}
use Rattle.tp_base.specs.Names.{same_id}
use Rattle.tp_base.specs.declared.names.CommandId.{CommandId}
use Rattle.tp_ops.specs.declared.command.Command.{Command}
use Rattle.tp_print.specs.Commands.{AreNumbered, IsRow, Row}
use Rattle.tp_rules.specs.Outcome.{command_of, first_result, reply_from, reply_to}
use Rattle.tp_rules.specs.declared.event.Entry.{Entry}
use Rattle.tp_ops.specs.declared.operation.Answer.{Answer}
use Rattle.tp_script.specs.declared.script.Script.{Script}

-- what is looked up, or what stands for it
pub unwrap_copied : {X : Type 0} (o : Option (Bor X)) (d r : Bor X) (x : X) → r ≡ unwrap_or o d → d.now ≡ x
    → r.now ≡ unwrap_or (option_copied o) x
unwrap_copied None d r x is e = ap (λ b. b.now) is ∙ e
unwrap_copied (Some y) d r x is e = ap (λ b. b.now) is

found_passes : {X : Type 0} (p : X → Bool) (xs : List X) (x : X) → find p xs ≡ Some x → p x ≡ true
found_passes p [] x e = absurd cc
found_passes {X} p (y ∷ ys) x e = by (p y) refl e (found_passes p ys x)
  where
    by : (b : Bool) → p y ≡ b → cond b (Some y) (find p ys) ≡ Some x → (find p ys ≡ Some x → p x ≡ true) → p x ≡ true
    by true t is rest = let same : y ≡ x = cc in ap p (sym same) ∙ t
    by false t is rest = rest is

-- the command of an identifier has it
pub id_is : (script : Script) (id : CommandId) (c : Command) → Some c ≡ command_of script id → c.id ≡ id
id_is script id c e = same_id_is c.id id (found_passes (λ (k : Command). same_id k.id id) script.commands c (sym e))

-- a place is counted where nothing is told of it
pub counted_told : {X : Type 0} (o : Option X) (told : Bool) → told ≡ is_some o
    → cond {A = ℕ} told 0 1 ≡ cond {A = ℕ} (is_none o) 1 0
counted_told None told e = ap (λ (b : Bool). cond {A = ℕ} b 0 1) e
counted_told (Some x) told e = ap (λ (b : Bool). cond {A = ℕ} b 0 1) e

-- a row of the table of a script's commands
pub row_is : (script : Script) (rows : List Row) (i : ℕ) (row : Row)
    → AreNumbered (length script.homes) script.commands script.commands rows
    → slice_get rows i ≡ Some row → IsRow script (suc i) row
row_is script rows i row h at =
    record { numbers = h.numbers i row at; commands = λ j o here. h.commands i j row o at here }

-- the reply of a place is that of its identifier
pub reply_at : (script : Script) (older : List Entry) (id : CommandId) (c : Command) → Some c ≡ command_of script id
    → (P : CommandId → Option (List Answer) → Type 0) → P c.id (reply_from script (first_result older c.id) (Some c))
    → P id (reply_to script older id)
reply_at script older id c is P h =
    subst (λ (o : Option Command). P id (reply_from script (first_result older id) o)) is
    (subst (λ (k : CommandId). P k (reply_from script (first_result older k) (Some c))) (id_is script id c is) h)

pub at_most_one : (b : Bool) → cond {A = ℕ} b 0 1 ≤ 1
at_most_one true = omega arith
at_most_one false = omega arith
