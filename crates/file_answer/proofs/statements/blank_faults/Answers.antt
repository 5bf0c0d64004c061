use Rattle.std.proofs.Common.{◌≡◌, ◌∙◌, ◌+◌, All, List, Option, ap, refl, subst, sym}
use Rattle.std.proofs.lemmas.List.Elements.{All-push}
use Rattle.std.specs.Prelude.{MatchOption, IfSome, slice_range}
use Rattle.std.specs.Str.{IsCharBoundary}
use Rattle.check_run.specs.source_file.declared.refusal.Refusal.{Refusal}
use Rattle.check_run.specs.source_file.Refusals.{place_of}
use Rattle.law_reports.specs.sql_read.sql_token.Token.{Text}
use Rattle.file_answer.specs.Faults.{IsFaultIn, IsReadable}
use Rattle.file_answer.proofs.Going.{Going, StaysWhole, all_read, fault_on, read_on, whole_blanked}
use Rattle.file_answer.proofs.statements.blank_faults.Goals as goal
use Rattle.file_answer.proofs.statements.blank_faults.Goals.{in-Some+in_ok-push, in_default}

pub loop-span-preserved : goal.loop-span-preserved
loop-span-preserved c =
    let l = c.loop-span in
    let t = c.args.text.now in
    let toks = c.args.toks.now in
    let spans = c.args.spans.now in
    let r = c.range_of-range.result in
    elim c.match-branch-2.branch [
      | in-Some+in_ok-push w ↦
          let f = w.in-Some.fault in
          let bytes : c.match-branch-2.bytes.items ≡ w.blank.new.bytes.items = ap (λ b. b.items) w.bytes-is in
          let faults : c.match-branch-2.faults.items ≡ w.push.new.self.items = ap (λ v. v.items) w.faults-is in
          let own = subst (λ (o : Option Refusal). MatchOption o (IsReadable (slice_range t r.start r.end)) (IsFaultIn t r)) w.in-Some.is c.in_ok-fault.ensures.fault in
          let place = subst (λ (o : Option Refusal). IfSome o (λ x. IsCharBoundary t (place_of x))) w.in-Some.is c.in_ok-fault.ensures.placed in
          record {
            going = fault_on t toks spans l.span-index _ _ r l.faults.items c.match-branch-2.faults.items f l.bytes.items c.match-branch-2.bytes.items c.loop-span-test.true
                refl c.range_of-range.ensures.value own (faults ∙ w.in_ok-push.ensures.items) (bytes ∙ w.blank.ensures) l.invariant.going;
            whole = whole_blanked t l.bytes.items c.match-branch-2.bytes.items r l.invariant.whole c.range_of-range.ensures.range (bytes ∙ w.blank.ensures);
            placed = subst (λ (fs : List Refusal). All (λ x. IsCharBoundary t (place_of x)) fs) (sym (faults ∙ w.in_ok-push.ensures.items))
                (All-push (λ x. IsCharBoundary t (place_of x)) l.faults.items f l.invariant.placed place);
          }
      | in_default w ↦
          let bytes : c.match-branch-2.bytes.items ≡ l.bytes.items = ap (λ b. b.items) w.bytes-is in
          let faults : c.match-branch-2.faults.items ≡ l.faults.items = ap (λ v. v.items) w.faults-is in
          let readable = subst (λ (o : Option Refusal). MatchOption o (IsReadable (slice_range t r.start r.end)) (IsFaultIn t r)) w.in_default.is c.in_ok-fault.ensures.fault in
          let going = read_on t toks spans l.span-index _ _ r l.faults.items l.bytes.items c.loop-span-test.true refl c.range_of-range.ensures.value readable l.invariant.going in
          record {
            going = subst (λ (fs : List Refusal). Going t toks spans (l.span-index + 1) fs c.match-branch-2.bytes.items) (sym faults)
                (subst (λ (b : Text). Going t toks spans (l.span-index + 1) l.faults.items b) (sym bytes) going);
            whole = subst (λ (b : Text). StaysWhole t b) (sym bytes) l.invariant.whole;
            placed = subst (λ (fs : List Refusal). All (λ x. IsCharBoundary t (place_of x)) fs) (sym faults) l.invariant.placed;
          }
    ]

pub returns-clause-have : goal.returns-clause-have
returns-clause-have c =
    let l = c.loop-span in
    all_read c.args.text.now c.args.toks.now c.args.spans.now l.span-index l.faults.items l.bytes.items c.loop-span-test.false l.invariant.going
