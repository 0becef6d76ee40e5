use Rattle.std.proofs.Common.{Err, Option, None, Some, inl, ap, subst, sym, ◌≡◌, ◌⊎◌, ◌∙◌}
use Rattle.tp_outside.specs.Causes.{Rose}
use Rattle.tp_run.proofs.Served.{Refusing, Serving, none_read, none_written, nothing_kept, refused_complete, refused_exact, refused_read, refused_written, served_complete, served_exact, served_kept, served_read, served_written}
use Rattle.tp_run.proofs.plain.tempo_plain.Goals as goal
use Rattle.tp_run.specs.TopCall.{IsDue, IsInputFor, IsKept, IsRead, IsServed, IsWritten}
use Rattle.tp_run.specs.declared.call.Call.{Call}
use Rattle.tp_run.specs.declared.finished.Cause.{Cause}
use Rattle.tp_run.specs.declared.finished.Cause.TheVariants.{Memory}

pub returns-in-Ok : goal.returns-in-Ok
returns-in-Ok g c =
    let told = c.finish.result in
    let left = g.S.Source.left c.args.input.now in
    let failed = g.S.Source.faults c.args.input.now in
    let fails = g.S.Source.faults c.script_of.new.input in
    let wrote = g.K.Sink.faults c.args.out.now in
    let writes = g.K.Sink.faults c.finish.new.out in
    let is = sym c.in-Some.is ∙ c.plain_call.ensures in
    let s : Serving c.in-Some.call left (g.S.Source.left c.script_of.new.input) (g.S.Source.ended c.script_of.new.input) failed fails
    (g.K.Sink.written c.args.out.now) (g.K.Sink.written c.finish.new.out) wrote writes
    c.in-Ok.given.script c.in-Ok.given.journal c.respond-answer.new.journal c.respond-answer.result told = record {
      accepted = c.in-Ok.ensures.accepted;
      of = c.in-Ok.ensures.script;
      to_end = c.in-Ok.ensures.ended;
      unread = c.script_of.ensures.unread;
      taken = c.script_of.ensures.taken;
      unfailed = c.in-Ok.ensures.fault.kept (λ e. absurd cc);
      due = c.in-Ok.ensures.due;
      empty = c.in-Ok.ensures.empty;
      run = c.respond-answer.ensures.run;
      picked = c.respond-answer.ensures.picked;
      unrun = c.respond-answer.ensures.unrun;
      quiet = c.respond-answer.ensures.quiet;
      right = c.respond-answer.ensures.right;
      has_script = c.finish.ensures.script;
      has_journal = c.finish.ensures.journal;
      memory = c.finish.ensures.memory;
      all = c.finish.ensures.all;
      none = c.finish.ensures.none;
      front = c.finish.ensures.front;
      unwritten = c.finish.ensures.unwritten;
      fault = c.finish.ensures.fault;
    } in
    record {
      status = c.finish.ensures.status;
      read = subst (λ (call : Option Call). IsRead call left (g.S.Source.left c.script_of.new.input) (g.S.Source.ended c.script_of.new.input) failed fails told) is
          (served_read _ _ _ _ _ _ _ _ _ _ _ _ _ _ _ s);
      kept = subst (λ (call : Option Call). IsKept call told) is (served_kept _ _ _ _ _ _ _ _ _ _ _ _ _ _ _ s);
      written = subst (λ (call : Option Call). IsWritten call (g.K.Sink.written c.args.out.now) (g.K.Sink.written c.finish.new.out) wrote writes told) is
          (served_written _ _ _ _ _ _ _ _ _ _ _ _ _ _ _ s);
      exact = subst (λ (call : Option Call). ¬ Rose failed fails → ¬ Rose wrote writes → IsDue call left told.cause ⊎ (told.cause ≡ Some Memory)) is
          (served_exact _ _ _ _ _ _ _ _ _ _ _ _ _ _ _ s);
      complete = subst (λ (call : Option Call). IsInputFor call left → ¬ Rose failed fails → ¬ Rose wrote writes → IsServed call told.cause ⊎ (told.cause ≡ Some Memory)) is
          (served_complete _ _ _ _ _ _ _ _ _ _ _ _ _ _ _ s);
    }

pub returns-in-Err : goal.returns-in-Err
returns-in-Err g c =
    let told = c.refused-in-Err.result in
    let left = g.S.Source.left c.args.input.now in
    let rest = g.S.Source.left c.script_of.new.input in
    let failed = g.S.Source.faults c.args.input.now in
    let fails = g.S.Source.faults c.script_of.new.input in
    let written = g.K.Sink.written c.args.out.now in
    let wrote = g.K.Sink.faults c.args.out.now in
    let is = sym c.in-Some.is ∙ c.plain_call.ensures in
    let r : Refusing c.in-Some.call left rest failed fails c.in-Err.cause told = record {
      refused = c.in-Err.ensures.refused;
      unread = c.script_of.ensures.unread;
      taken = c.script_of.ensures.taken;
      below = c.in-Err.ensures.below;
      rose = λ e. c.in-Err.ensures.fault.failed (ap (λ (x : Cause). Err x) e);
      same = λ no. c.in-Err.ensures.fault.kept (λ e. no cc);
      has_cause = c.refused-in-Err.ensures.cause;
      no_script = c.refused-in-Err.ensures.script;
      no_journal = c.refused-in-Err.ensures.journal;
    } in
    record {
      status = c.refused-in-Err.ensures.status;
      read = subst (λ (call : Option Call). IsRead call left rest (g.S.Source.ended c.script_of.new.input) failed fails told) is (refused_read _ _ _ _ _ _ _ _ r);
      kept = nothing_kept told r.no_script _ r.no_journal;
      written = subst (λ (call : Option Call). IsWritten call written written wrote wrote told) is
          (refused_written _ _ _ (g.S.Source.ended c.script_of.new.input) _ _ _ _ r written wrote);
      exact = subst (λ (call : Option Call). ¬ Rose failed fails → ¬ Rose wrote wrote → IsDue call left told.cause ⊎ (told.cause ≡ Some Memory)) is
          (λ read write. refused_exact _ _ _ (g.S.Source.ended c.script_of.new.input) _ _ _ _ r read);
      complete = subst (λ (call : Option Call). IsInputFor call left → ¬ Rose failed fails → ¬ Rose wrote wrote → IsServed call told.cause ⊎ (told.cause ≡ Some Memory)) is
          (λ input read write. refused_complete _ _ _ (g.S.Source.ended c.script_of.new.input) _ _ _ _ r input read);
    }

pub returns-in_default : goal.returns-in_default
returns-in_default g c =
    let told = c.refused.result in
    let left = g.S.Source.left c.args.input.now in
    let failed = g.S.Source.faults c.args.input.now in
    let written = g.K.Sink.written c.args.out.now in
    let wrote = g.K.Sink.faults c.args.out.now in
    let words = c.refused.ensures.cause in
    let no_script = c.refused.ensures.script in
    let is : None ≡ _ = c.in_default.ensures in
    record {
      status = c.refused.ensures.status;
      read = subst (λ (call : Option Call). IsRead call left left (g.S.Source.ended c.args.input.now) failed failed told) is
          (none_read told no_script words left (g.S.Source.ended c.args.input.now) failed);
      kept = nothing_kept told no_script _ c.refused.ensures.journal;
      written = subst (λ (call : Option Call). IsWritten call written written wrote wrote told) is (none_written told no_script words written wrote);
      exact = subst (λ (call : Option Call). ¬ Rose failed failed → ¬ Rose wrote wrote → IsDue call left told.cause ⊎ (told.cause ≡ Some Memory)) is
          (λ read write. inl words);
      complete = subst (λ (call : Option Call). IsInputFor call left → ¬ Rose failed failed → ¬ Rose wrote wrote → IsServed call told.cause ⊎ (told.cause ≡ Some Memory)) is
          (λ input read write. absurd input);
    }
