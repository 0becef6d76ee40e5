use Rattle.std.proofs.Common.{true, false, Option, Some, is_some, subst, ◌≡◌, ◌⊎◌}
use Rattle.tp_outside.specs.Causes.{Rose}
use Rattle.tp_run.proofs.Words.{plain_is, threaded_is}
use Rattle.tp_run.proofs.top.tempo.Goals as goal
use Rattle.tp_run.specs.Calls.{call_of, threaded}
use Rattle.tp_run.specs.TopCall.{IsDue, IsInputFor, IsKept, IsRead, IsServed, IsWritten}
use Rattle.tp_run.specs.declared.call.Call.{Call}
use Rattle.tp_run.specs.declared.finished.Cause.TheVariants.{Memory}

pub returns-then-is_some : goal.returns-then-is_some
returns-then-is_some g c =
    let words = c.args.words.now in
    let some : is_some (threaded (call_of words)) ≡ true = cc in
    let is = threaded_is (call_of words) some in
    let told = c.tempo_run.result in
    let left = g.S.Source.left c.args.input.now in
    let failed = g.S.Source.faults c.args.input.now in
    let fails = g.S.Source.faults c.tempo_run.new.input in
    let wrote = g.K.Sink.faults c.args.out.now in
    let writes = g.K.Sink.faults c.tempo_run.new.out in
    record {
      status = c.tempo_run.ensures.status;
      read = subst (λ (call : Option Call). IsRead call left (g.S.Source.left c.tempo_run.new.input) (g.S.Source.ended c.tempo_run.new.input) failed fails told) is c.tempo_run.ensures.read;
      kept = subst (λ (call : Option Call). IsKept call told) is c.tempo_run.ensures.kept;
      written = subst (λ (call : Option Call). IsWritten call (g.K.Sink.written c.args.out.now) (g.K.Sink.written c.tempo_run.new.out) wrote writes told) is c.tempo_run.ensures.written;
      exact = subst (λ (call : Option Call). ¬ Rose failed fails → ¬ Rose wrote writes → IsDue call left told.cause ⊎ (told.cause ≡ Some Memory)) is c.tempo_run.ensures.exact;
      complete = subst (λ (call : Option Call). IsInputFor call left → ¬ Rose failed fails → ¬ Rose wrote writes → IsServed call told.cause ⊎ (told.cause ≡ Some Memory)) is c.tempo_run.ensures.complete;
    }

pub returns-else-is_some : goal.returns-else-is_some
returns-else-is_some g c =
    let words = c.args.words.now in
    let some : is_some (threaded (call_of words)) ≡ false = cc in
    let is = plain_is (call_of words) some in
    let told = c.tempo_plain.result in
    let left = g.S.Source.left c.args.input.now in
    let failed = g.S.Source.faults c.args.input.now in
    let fails = g.S.Source.faults c.tempo_plain.new.input in
    let wrote = g.K.Sink.faults c.args.out.now in
    let writes = g.K.Sink.faults c.tempo_plain.new.out in
    record {
      status = c.tempo_plain.ensures.status;
      read = subst (λ (call : Option Call). IsRead call left (g.S.Source.left c.tempo_plain.new.input) (g.S.Source.ended c.tempo_plain.new.input) failed fails told) is c.tempo_plain.ensures.read;
      kept = subst (λ (call : Option Call). IsKept call told) is c.tempo_plain.ensures.kept;
      written = subst (λ (call : Option Call). IsWritten call (g.K.Sink.written c.args.out.now) (g.K.Sink.written c.tempo_plain.new.out) wrote writes told) is c.tempo_plain.ensures.written;
      exact = subst (λ (call : Option Call). ¬ Rose failed fails → ¬ Rose wrote writes → IsDue call left told.cause ⊎ (told.cause ≡ Some Memory)) is c.tempo_plain.ensures.exact;
      complete = subst (λ (call : Option Call). IsInputFor call left → ¬ Rose failed fails → ¬ Rose wrote writes → IsServed call told.cause ⊎ (told.cause ≡ Some Memory)) is c.tempo_plain.ensures.complete;
    }
