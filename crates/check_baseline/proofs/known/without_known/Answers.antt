use Rattle.std.proofs.Common.{◌∙◌, ◌∷◌, [], ◌++◌, All, ap, append_assoc, subst, sym}
use Rattle.std.specs.List.{AllZip}
use Rattle.std.proofs.lemmas.List.Elements.{All-append, All-cons, All-nil}
use Rattle.checked_file.specs.Sound.{IsSound}
use Rattle.check_baseline.specs.Known.{IsLeft}
use Rattle.check_baseline.proofs.Steps.{all_after, zip_snoc}
use Rattle.check_baseline.proofs.known.without_known.Goals as goal

pub loop-file-init : goal.loop-file-init
loop-file-init c =
    let given = c.into_iter-file-iterator.ensures.into_iter_gives.0 in
    record {
      others = sym given;
      left = subst (λ ys. AllZip (IsLeft c.args.baseline.now) [] ys) (sym c.new-all.ensures.items) tt;
      sound = subst (λ ys. All IsSound ys) (sym c.new-all.ensures.items) (All-nil IsSound);
      sound_others = subst (λ xs. All IsSound xs) (sym given) c.requires;
    }

pub loop-file-preserved : goal.loop-file-preserved
loop-file-preserved c =
    let step = c.in-Some.ensures.steps.0 in
    let l = c.loop-file in
    record {
      others = l.invariant.others ∙ ap (λ xs. l.yielded ++ xs) step ∙ sym (append_assoc l.yielded (c.in-Some.file ∷ []) c.next.new.self.rest.items);
      left = subst (λ ys. AllZip (IsLeft c.args.baseline.now) (l.yielded ++ c.in-Some.file ∷ []) ys) (sym c.in_ok-push.ensures.items)
          (zip_snoc (IsLeft c.args.baseline.now) l.yielded l.all.items c.in-Some.file c.in_ok-file.file l.invariant.left c.in_ok-file.ensures.left);
      sound = subst (λ ys. All IsSound ys) (sym c.in_ok-push.ensures.items)
          (All-append IsSound l.all.items (c.in_ok-file.file ∷ []) l.invariant.sound (All-cons IsSound c.in_ok-file.file [] c.in_ok-file.ensures.sound (All-nil IsSound)));
      sound_others = all_after IsSound c.in-Some.file l.file-iterator.rest.items c.next.new.self.rest.items step l.invariant.sound_others;
    }
