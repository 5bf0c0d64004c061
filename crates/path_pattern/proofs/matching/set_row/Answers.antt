use Rattle.std.proofs.Common.{◌≡◌, ◌∙◌, ◌+◌, ◌-◌, ap, arith, get_or, set, subst, sym, ℕ, Bool, false}
use Rattle.std.proofs.lemmas.List.{length-set}
use Rattle.path_pattern.specs.Patterns.{takes}
use Rattle.path_pattern.specs.Rows.{value_at}
use Rattle.path_pattern.proofs.Rows.{Halfway, onward}
use Rattle.path_pattern.proofs.matching.set_row.Goals as goal

pub loop-i-preserved : goal.loop-i-preserved
loop-i-preserved c =
    let l = c.loop-i in
    let part = c.args.part in
    let path = c.args.path.now in
    let j : ℕ = l.i - 1 in
    let back : l.i ≡ j + 1 = omega arith in
    let here : Bool = get_or l.row j false in
    let later : Bool = get_or l.row (j + 1) false in
    let value : c.value_at.result ≡ value_at part here (takes part (get_or path j 0)) later l.is_next =
    c.value_at.ensures ∙ ap (λ (t : Bool). value_at part here t later l.is_next) c.takes.ensures in
    record {
      halfway = λ test is.
          let before : Halfway part test path (j + 1) l.row l.is_next =
          subst (λ (n : ℕ). Halfway part test path n l.row l.is_next) back (l.invariant.halfway test is) in
          subst (λ (v : Bool). Halfway part test path j (set l.row j v) here) (sym value)
          (onward part test path j l.row l.is_next l.invariant.long (omega arith) before);
      long = omega (arith, length-set {A = Bool});
      within = omega arith;
    }
