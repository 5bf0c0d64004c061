use Rattle.std.proofs.Common.{◌≡◌, ◌∙◌, ℕ, ◌+◌, List, ◌++◌, ap, sym, subst, append_assoc, length, arith}
use Rattle.std.proofs.lemmas.List.{append-nil}
use Rattle.std.proofs.lemmas.Result.{on_ok_weaker}
use Rattle.lint_ignore.specs.sql_tree.Statement.{Tree}
use Rattle.lint_base.specs.GrownLaws.{at_err, err_then, grown_by_all}
use Rattle.lint_transaction.specs.Earlier.{concat_below}
use Rattle.lint_transaction.specs.Tracking.{IsTracking}
use Rattle.lint_transaction.specs.Transaction.{stmt_at}
use Rattle.lint_pass.specs.Blocks.{blocks_of}
use Rattle.lint_pass.specs.Pieces.{grown_in_table, grown_in_tail, grown_piece}
use Rattle.lint_pass.proofs.feed.drive.Goals as goal

-- one more piece was told
told_next : {A : Type 0} (f : ℕ → List A) (old mid new : List A) (i j k : ℕ) → j ≡ i → k ≡ i + 1 → mid ≡ old ++ concat_below f i
    → new ≡ mid ++ f j → new ≡ old ++ concat_below f k
told_next f old mid new i j k e n m h =
    subst (λ at. new ≡ old ++ concat_below f at) (sym n) (grown_piece f old mid new i m (subst (λ at. new ≡ mid ++ f at) e h))

-- all pieces were told, and then the tail
told_all : {A : Type 0} (f : ℕ → List A) (old mid new tail table : List A) (i n : ℕ) → i ≡ n → mid ≡ old ++ concat_below f i
    → concat_below f n ++ tail ≡ table → new ≡ mid ++ tail → new ≡ old ++ table
told_all f old mid new tail table i n e m w h =
    let told = subst (λ at. mid ≡ old ++ concat_below f at) e m in
    h ∙ ap (λ l. l ++ tail) told ∙ append_assoc old (concat_below f n) tail ∙ ap (λ l. old ++ l) w

pub loop-i-init : goal.loop-i-init
loop-i-init g c =
    let pass = g.P.StepPass in
    let piece = pass.reports_at c.args.pass.now c.args.p.now c.args.rules.now c.args.set.now in
    let first = sym c.rewind.ensures.start in
    let blocks_steps = rw c.new-cursor.ensures.tree at c.in_ok-blocks.ensures.steps in
    record {
      tree = c.rewind.ensures.tree ∙ c.in_ok-blocks.ensures.tree ∙ c.new-cursor.ensures.tree;
      within = omega (arith, first);
      state = subst (pass.at c.args.pass.now c.in_ok-state.state c.args.p.now c.args.rules.now c.args.set.now) first
          (c.in_ok-state.ensures c.args.p.now c.args.rules.now c.requires);
      blocks = λ wants. c.in_ok-blocks.ensures.blocks wants ∙ ap blocks_of c.new-cursor.ensures.tree;
      created = subst (λ i. IsTracking c.args.p.now c.args.set.now.assume_in_transaction i c.new-created.result) first (c.new-created.ensures c.args.p.now);
      told = subst (λ i. c.args.out.now ≡ c.args.out.now ++ concat_below piece i) first (sym (append-nil c.args.out.now));
      steps = omega (arith, first, blocks_steps);
    }

pub step-requires-clause-state : goal.step-requires-clause-state
step-requires-clause-state g c =
    subst (g.P.StepPass.at c.args.pass.now c.loop-i.state c.args.p.now c.args.rules.now c.args.set.now) (sym c.in-Some.ensures.number) c.loop-i.invariant.state

pub step-requires-clause-within : goal.step-requires-clause-within
step-requires-clause-within g c =
    let within = rw c.loop-i.invariant.tree at c.in-Some.ensures.within in
    omega (arith, c.in-Some.ensures.number)

pub step-requires-clause-stmt : goal.step-requires-clause-stmt
step-requires-clause-stmt g c =
    c.in-Some.ensures.stmt ∙ ap (λ (tree : Tree). stmt_at tree c.loop-i.cursor.next) c.loop-i.invariant.tree
    ∙ ap (stmt_at c.args.p.now) (sym c.in-Some.ensures.number)

pub step-requires-clause-blocks : goal.step-requires-clause-blocks
step-requires-clause-blocks g c = c.loop-i.invariant.blocks

pub step-requires-clause-created : goal.step-requires-clause-created
step-requires-clause-created g c =
    subst (λ i. IsTracking c.args.p.now c.args.set.now.assume_in_transaction i c.loop-i.seen.created) (sym c.in-Some.ensures.number) c.loop-i.invariant.created

pub loop-i-preserved : goal.loop-i-preserved
loop-i-preserved g c =
    let pass = g.P.StepPass in
    let piece = pass.reports_at c.args.pass.now c.args.p.now c.args.rules.now c.args.set.now in
    let within = rw c.loop-i.invariant.tree at c.in-Some.ensures.within in
    let next = c.in-Some.ensures.next in
    let here = ap (λ i. i + 1) c.in-Some.ensures.number ∙ sym next in
    let assumed = c.args.set.now.assume_in_transaction in
    let stmt =
    c.in-Some.ensures.stmt ∙ ap (λ (tree : Tree). stmt_at tree c.loop-i.cursor.next) c.loop-i.invariant.tree
    ∙ ap (stmt_at c.args.p.now) (sym c.in-Some.ensures.number) in
    let known = subst (λ i. IsTracking c.args.p.now assumed i c.loop-i.seen.created) (sym c.in-Some.ensures.number) c.loop-i.invariant.created in
    record {
      tree = c.in-Some.ensures.tree ∙ c.loop-i.invariant.tree;
      within = omega (arith, next);
      state = subst (pass.at c.args.pass.now c.step.new.state c.args.p.now c.args.rules.now c.args.set.now) here c.in_ok-step.ensures.state;
      blocks = c.loop-i.invariant.blocks;
      created = subst (λ i. IsTracking c.args.p.now assumed i c.update.new.self) here (c.in_ok-update.ensures.tracks assumed c.in-Some.i stmt known);
      told = told_next piece c.args.out.now c.loop-i.out c.step.new.out c.loop-i.cursor.next c.in-Some.i c.next.new.self.next
          c.in-Some.ensures.number next c.loop-i.invariant.told c.in_ok-step.ensures.ok;
      steps = omega (arith, next, c.in-Some.ensures.steps);
    }

pub finish-requires-clause-state : goal.finish-requires-clause-state
finish-requires-clause-state g c =
    let at_end : c.loop-i.cursor.next ≡ length c.args.p.now.stmts =
    c.in_default.ensures.end ∙ ap (λ (tree : Tree). length tree.stmts) c.loop-i.invariant.tree in
    subst (g.P.StepPass.at c.args.pass.now c.loop-i.state c.args.p.now c.args.rules.now c.args.set.now) at_end c.loop-i.invariant.state

pub returns-clause-ok : goal.returns-clause-ok
returns-clause-ok g c =
    let piece = g.P.StepPass.reports_at c.args.pass.now c.args.p.now c.args.rules.now c.args.set.now in
    let tail = g.P.StepPass.tail c.args.pass.now c.args.p.now c.args.rules.now c.args.set.now in
    let at_end : c.loop-i.cursor.next ≡ length c.args.p.now.stmts =
    c.in_default.ensures.end ∙ ap (λ (tree : Tree). length tree.stmts) c.loop-i.invariant.tree in
    on_ok_weaker c.finish.result
    (told_all piece c.args.out.now c.loop-i.out c.finish.new.out tail (g.P.StepPass.table c.args.pass.now c.args.p.now c.args.rules.now c.args.set.now)
    c.loop-i.cursor.next (length c.args.p.now.stmts) at_end c.loop-i.invariant.told (g.P.StepPass.whole _ _ _ _))
    c.finish.ensures.ok

pub returns-in_err-step-clause-err : goal.returns-in_err-step-clause-err
returns-in_err-step-clause-err g c =
    let within = rw c.loop-i.invariant.tree at c.in-Some.ensures.within in
    at_err _ (grown_in_table (g.P.StepPass.reports_at _ _ _ _) _ _ _ _ _ _ _ _ c.in-Some.ensures.number within c.loop-i.invariant.told c.in_err-step.ensures.err (g.P.StepPass.whole _ _ _ _))

pub returns-in_err-update-clause-err : goal.returns-in_err-update-clause-err
returns-in_err-update-clause-err g c =
    let within = rw c.loop-i.invariant.tree at c.in-Some.ensures.within in
    at_err _
    (grown_in_table (g.P.StepPass.reports_at _ _ _ _) _ _ _ _ _ _ _ _ c.in-Some.ensures.number within c.loop-i.invariant.told (grown_by_all _ _ _ c.in_ok-step.ensures.ok)
    (g.P.StepPass.whole _ _ _ _))

pub returns-clause-err : goal.returns-clause-err
returns-clause-err g c =
    let at_end : c.loop-i.cursor.next ≡ length c.args.p.now.stmts = c.in_default.ensures.end ∙ ap (λ (tree : Tree). length tree.stmts) c.loop-i.invariant.tree in
    err_then _
    (λ h. grown_in_tail (g.P.StepPass.reports_at c.args.pass.now c.args.p.now c.args.rules.now c.args.set.now) c.args.out.now c.loop-i.out c.finish.new.out
    (g.P.StepPass.tail c.args.pass.now c.args.p.now c.args.rules.now c.args.set.now) (g.P.StepPass.table c.args.pass.now c.args.p.now c.args.rules.now c.args.set.now)
    c.loop-i.cursor.next (length c.args.p.now.stmts) at_end c.loop-i.invariant.told h (g.P.StepPass.whole _ _ _ _))
    c.finish.ensures.err
