-- The laws of a message's bytes, over lists of bytes.
use Rattle.std.proofs.Common.{◌≡◌, ℕ, zero, suc, ◌<◌, ◌≤◌, true, ltb, List, [], ◌∷◌, length, Ok, sym, subst, arith}
use Rattle.std.specs.List.{flat_map}
use Rattle.std.proofs.lemmas.Bool.{lt-ltb}
use Rattle.std.proofs.lemmas.List.Concat.{flat_map-cons}
use Rattle.tp_base.specs.Fields.{IsBytes, big_endian}
use Rattle.tp_base.specs.Limits.{IsId}
use Rattle.tp_base.specs.Lists.{Each}
use Rattle.tp_base.specs.declared.names.ActorName.{ActorName}
use Rattle.tp_base.specs.declared.names.ActorName.TheVariants.{Process, Executor, Session}
use Rattle.tp_base.specs.declared.names.CommandId.{CommandId}
use Rattle.tp_base.specs.declared.names.Made.{Made}
use Rattle.tp_base.specs.declared.names.Made.TheVariants.{Proposal, Recovery}
use Rattle.tp_base.specs.declared.names.Pair.{Pair}
use Rattle.tp_base.proofs.Each.{each_append}
use Rattle.tp_ops.specs.Limits.{IsAnswer, IsCommand, IsOp, IsText}
use Rattle.tp_ops.specs.declared.command.Command.{Command}
use Rattle.tp_ops.specs.declared.operation.Answer.{Answer}
use Rattle.tp_ops.specs.declared.operation.Answer.TheVariants.{Missing, Value, Yes, No}
use Rattle.tp_ops.specs.declared.operation.Op.{Op}
use Rattle.tp_ops.specs.declared.operation.Op.TheVariants.{Get, Put, Del, Cas}
use Rattle.tp_text.proofs.Hexed.{AreBytes}
use Rattle.tp_wire.specs.Meaning.{message_of}
use Rattle.tp_wire.specs.Ranges.{IsAttached, IsBody, IsClient, IsExecutor, IsInRange, IsProcess}
use Rattle.tp_wire.specs.Spelling as spelled
use Rattle.tp_wire.specs.Spelling.{bytes_of, fields_of, joined, kind_of, made_byte}
use Rattle.tp_wire.specs.declared.message.Body.{Body}
use Rattle.tp_wire.specs.declared.message.Body.TheVariants.{MSubmit, MPropose, MPayload, MProposeAck, MBump, MConsensus, MConsensusAck, MCommit, MRec, MRecAck, MPromises, MCommitted, MStable, MResult}
use Rattle.tp_wire.specs.declared.message.Message.{Message}
use Rattle.tp_wire.proofs.WireLaws.{again, takes}

-- ---- a spelling has bytes alone

are_joined : (parts : List (List ℕ)) → Each AreBytes parts → AreBytes (joined parts)
are_joined [] fits = tt
are_joined (part ∷ parts) fits = each_append (λ (b : ℕ). b < 256) part (joined parts) fits.0 (are_joined parts fits.1)

are_big : (width n : ℕ) → AreBytes (big_endian width n)
unfolding big_endian
are_big zero n = tt
are_big (suc width) n = (omega arith, are_big width n)

are_flat : {X : Type 0} (P : X → Type 0) (f : X → List ℕ) → ((x : X) → P x → AreBytes (f x)) → (xs : List X) → Each P xs → AreBytes (flat_map f xs)
are_flat P f each [] fits = tt
are_flat P f each (x ∷ xs) fits =
    subst AreBytes (sym (flat_map-cons f x xs)) (each_append (λ (b : ℕ). b < 256) (f x) (flat_map f xs) (each x fits.0) (are_flat P f each xs fits.1))

id_bytes : (i : CommandId) → IsId i → AreBytes (spelled.id i)
unfolding spelled.id
id_bytes i fits = are_joined (spelled.byte i.session.0 ∷ spelled.four i.number ∷ []) ((omega (arith, fits.0.1), tt), (are_big 4 i.number, tt))

text_bytes : (low high : ℕ) (bytes : List ℕ) → high < 256 → IsText low high bytes → AreBytes (spelled.text bytes)
unfolding spelled.text
text_bytes low high bytes few fits = are_joined (spelled.byte (length bytes) ∷ bytes ∷ []) ((omega (arith, few, fits.0.1), tt), (fits.1, tt))

op_bytes : (o : Op) → IsOp o → AreBytes (spelled.op o)
unfolding spelled.op
op_bytes (Get key) fits = are_joined (spelled.byte 1 ∷ spelled.text key ∷ []) ((omega arith, tt), (text_bytes 1 32 key (omega arith) fits, tt))
op_bytes (Put key value) fits =
    are_joined (spelled.byte 2 ∷ spelled.text key ∷ spelled.text value ∷ []) ((omega arith, tt), (text_bytes 1 32 key (omega arith) fits.0, (text_bytes 0 64 value (omega arith) fits.1, tt)))
op_bytes (Del key) fits = are_joined (spelled.byte 3 ∷ spelled.text key ∷ []) ((omega arith, tt), (text_bytes 1 32 key (omega arith) fits, tt))
op_bytes (Cas key old new) fits =
    are_joined (spelled.byte 4 ∷ spelled.text key ∷ spelled.text old ∷ spelled.text new ∷ []) ((omega arith, tt), (text_bytes 1 32 key (omega arith) fits.0, (text_bytes 0 64 old (omega arith) fits.1, (text_bytes 0 64 new (omega arith) fits.2, tt))))

command_bytes : (c : Command) → IsCommand c → AreBytes (spelled.command c)
unfolding spelled.command
command_bytes c fits =
    are_joined (spelled.id c.id ∷ spelled.byte c.home.0 ∷ spelled.byte (length c.ops) ∷ flat_map spelled.op c.ops ∷ [])
    (id_bytes c.id fits.0, ((omega (arith, fits.1.1), tt), ((omega (arith, fits.2.1), tt), (are_flat IsOp spelled.op op_bytes c.ops fits.3, tt))))

answer_bytes : (a : Answer) → IsAnswer a → AreBytes (spelled.answer a)
unfolding spelled.answer
answer_bytes Missing fits = (omega arith, tt)
answer_bytes (Value value) fits = are_joined (spelled.byte 2 ∷ spelled.text value ∷ []) ((omega arith, tt), (text_bytes 0 64 value (omega arith) fits, tt))
answer_bytes Yes fits = (omega arith, tt)
answer_bytes No fits = (omega arith, tt)

answers_bytes : (told : List Answer) → length told ≤ 16 → Each IsAnswer told → AreBytes (spelled.answers told)
unfolding spelled.answers
answers_bytes told few fits = are_joined (spelled.byte (length told) ∷ flat_map spelled.answer told ∷ []) ((omega (arith, few), tt), (are_flat IsAnswer spelled.answer answer_bytes told fits, tt))

pair_bytes : (p : Pair) → IsId p.id → AreBytes (spelled.pair p)
unfolding spelled.pair
pair_bytes p fits = are_joined (spelled.id p.id ∷ spelled.eight p.stamp.0 ∷ []) (id_bytes p.id fits, (are_big 8 p.stamp.0, tt))

attached_ids : (lo hi : ℕ) (ps : List Pair) → IsAttached lo hi ps → Each (λ p. IsId p.id) ps
attached_ids lo hi [] fits = tt
attached_ids lo hi (p ∷ ps) fits = (fits.0, attached_ids p.stamp.0 hi ps fits.2)

pairs_bytes : (lo hi : ℕ) (ps : List Pair) → IsAttached lo hi ps → AreBytes (spelled.pairs ps)
unfolding spelled.pairs
pairs_bytes lo hi ps fits =
    are_joined (spelled.four (length ps) ∷ flat_map spelled.pair ps ∷ []) (are_big 4 (length ps), (are_flat (λ p. IsId p.id) spelled.pair pair_bytes ps (attached_ids lo hi ps fits), tt))

process_bytes : (a : ActorName) → IsProcess a → AreBytes (spelled.actor a)
unfolding spelled.actor
process_bytes (Process s) fits = (omega (arith, fits.0.1), (omega (arith, fits.1.1), tt))
process_bytes (Executor s) fits = absurd fits
process_bytes (Session s) fits = absurd fits

executor_bytes : (a : ActorName) → IsExecutor a → AreBytes (spelled.actor a)
unfolding spelled.actor
executor_bytes (Process s) fits = absurd fits
executor_bytes (Executor s) fits = (omega (arith, fits.0.1), (omega (arith, fits.1.1), tt))
executor_bytes (Session s) fits = absurd fits

client_bytes : (a : ActorName) → IsClient a → AreBytes (spelled.actor a)
unfolding spelled.actor
client_bytes (Process s) fits = absurd fits
client_bytes (Executor s) fits = absurd fits
client_bytes (Session s) fits = (omega (arith, fits.1), tt)

made_bytes : (m : Made) → AreBytes (made_byte m)
made_bytes Proposal = (omega arith, tt)
made_bytes Recovery = (omega arith, tt)

-- the parts of a message
abbrev ArePartsOf : ActorName → ActorName → Body → Type 0
ArePartsOf from to b = (kind_of b < 256) × AreBytes (spelled.actor from) × AreBytes (spelled.actor to) × Each AreBytes (fields_of b)

parts_bytes : (from to : ActorName) (b : Body) → IsBody from to b → ArePartsOf from to b
parts_bytes from to (MSubmit c) fits = (omega arith, client_bytes from fits.0, process_bytes to fits.1, (command_bytes c fits.2, tt))
parts_bytes from to (MPropose c t) fits = (omega arith, process_bytes from fits.0, process_bytes to fits.1, (command_bytes c fits.2, (are_big 8 t.0, tt)))
parts_bytes from to (MPayload c) fits = (omega arith, process_bytes from fits.0, process_bytes to fits.1, (command_bytes c fits.2, tt))
parts_bytes from to (MProposeAck i t) fits = (omega arith, process_bytes from fits.0, process_bytes to fits.1, (id_bytes i fits.2, (are_big 8 t.0, tt)))
parts_bytes from to (MBump i t) fits = (omega arith, process_bytes from fits.0, process_bytes to fits.1, (id_bytes i fits.2, (are_big 8 t.0, tt)))
parts_bytes from to (MConsensus c t b) fits = (omega arith, process_bytes from fits.0, process_bytes to fits.1, (command_bytes c fits.2, (are_big 8 t.0, (are_big 8 b, tt))))
parts_bytes from to (MConsensusAck i b) fits = (omega arith, process_bytes from fits.0, process_bytes to fits.1, (id_bytes i fits.2, (are_big 8 b, tt)))
parts_bytes from to (MCommit c q t) fits = (omega arith, process_bytes from fits.0, process_bytes to fits.1, (command_bytes c fits.2, ((omega (arith, fits.3.1), tt), (are_big 8 t.0, tt))))
parts_bytes from to (MRec c b) fits = (omega arith, process_bytes from fits.0, process_bytes to fits.1, (command_bytes c fits.2, (are_big 8 b, tt)))
parts_bytes from to (MRecAck i t made a b) fits =
    (omega arith, process_bytes from fits.0, process_bytes to fits.1, (id_bytes i fits.2, (are_big 8 t.0, (made_bytes made, (are_big 8 a, (are_big 8 b, tt))))))
parts_bytes from to (MPromises lo hi ps) fits = (omega arith, process_bytes from fits.0, executor_bytes to fits.1, (are_big 8 lo, (are_big 8 hi, (pairs_bytes lo hi ps fits.5, tt))))
parts_bytes from to (MCommitted c t) fits = (omega arith, process_bytes from fits.0, executor_bytes to fits.1, (command_bytes c fits.2, (are_big 8 t.0, tt)))
parts_bytes from to (MStable i) fits = (omega arith, executor_bytes from fits.0, executor_bytes to fits.1, (id_bytes i fits.2, tt))
parts_bytes from to (MResult i q told) fits =
    (omega arith, executor_bytes from fits.0, client_bytes to fits.1, (id_bytes i fits.2, ((omega (arith, fits.3.1), tt), (answers_bytes told fits.4.1 fits.5, tt))))

pub wire_bytes : (m : Message) → IsInRange m → AreBytes (bytes_of m)
unfolding bytes_of
wire_bytes m fits =
    let are = parts_bytes m.from m.to m.body fits in
    are_joined (spelled.byte (kind_of m.body) ∷ spelled.actor m.from ∷ spelled.actor m.to ∷ fields_of m.body) ((are.0, tt), (are.1, (are.2, are.3)))

more : (b : ℕ) (bytes : List ℕ) → ltb 0 (length (b ∷ bytes)) ≡ true
more b bytes = lt-ltb _ _ (omega arith)

pub some_bytes : (m : Message) → ltb 0 (length (bytes_of m)) ≡ true
unfolding bytes_of
some_bytes m = more (kind_of m.body) (joined (spelled.actor m.from ∷ spelled.actor m.to ∷ fields_of m.body))

-- ---- the two laws

each_byte : (bytes : List ℕ) → AreBytes bytes → IsBytes bytes
each_byte [] are i = omega arith
each_byte (b ∷ bytes) are zero = are.0
each_byte (b ∷ bytes) are (suc i) = each_byte bytes are.1 i

pub wire_takes : (bytes : List ℕ) (m : Message) → AreBytes bytes → message_of bytes ≡ Ok m → (bytes ≡ bytes_of m) × IsInRange m
wire_takes bytes m are e = takes bytes m (each_byte bytes are) e

pub wire_again : (m : Message) → IsInRange m → message_of (bytes_of m) ≡ Ok m
wire_again m fits = again m fits
