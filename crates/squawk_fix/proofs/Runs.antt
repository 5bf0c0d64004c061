-- Fixes that are made one after another of one answer.
use Rattle.std.proofs.Common.{◌≡◌, ◌∙◌, ℕ, ◌+◌, ◌<◌, ◌⊎◌, ◌^◌, inl, inr, true, false, List, [], ◌∷◌, length, get_or, sym, refl, ap, subst, arith, add-one, Option, Some, IfSome}
use Rattle.std.proofs.lemmas.Bool.{false≢true}
use Rattle.std.proofs.lemmas.List.Elements.{All-contains, All-contains_itself, All-head, All-tail, All-weaker}
use Rattle.std.specs.List.{list_all}
use Rattle.std.specs.Prelude.{All, Contains, ◌&&◌, nat_lt}
use Rattle.std.specs.Str.{IsUtf8}
use Rattle.law_next_fix.specs.sql_token.Token.{Text}
use Rattle.law_next_fix.specs.sql_tree.Statement.{Tree}
use Rattle.squawk_run.specs.lint_base.declared.edit.Edit.{Edit}
use Rattle.squawk_run.specs.lint_base.declared.violation.Violation.{Violation}
use Rattle.squawk_run.specs.lint_base.Fixes.{FixValue}
use Rattle.law_next_fix.specs.lint_ignore.Places.{IsPlace}
use Rattle.law_next_fix.specs.lint_pass.Laws.{AreEdits, IsRead}
use Rattle.law_next_fix.specs.law_fixes.Edited.{edited, place_moved}
use Rattle.law_next_fix.specs.law_fix_steps.Leaves.{is_followed}
use Rattle.law_next_fix.specs.law_fix_steps.Listed.{is_listed}
use Rattle.law_next_fix.specs.law_answer_steps.Leaves.{AnswerLeaves, AnswersAscend, AnswersLeave, Ascend, Comes, ComesFrom, FixLeavesAnswer, IsLeft}
use Rattle.law_next_fix.proofs.of_law_answer_steps.Leaving.{has_none, none_has}
use Rattle.law_next_fix.specs.fix_edit.Faults.{AreGood}
use Rattle.law_next_fix.specs.fix_choice.Fits.{CanBeTried, ListedCanBeTried, first_fitting, fits, joins_no_word}
use Rattle.law_next_fix.specs.squawk_linter.Answers.{reports}
use Rattle.law_next_fix.specs.squawk_linter.Headline.{HasNoIgnoreComment}
use Rattle.law_next_fix.specs.squawk_linter.Placed.{AnswersPlaced, IsPlaced}
use Rattle.law_next_fix.specs.Fitting.{AnswersCanBeTried, FittingFixesMayStep, IfFitting, MayStep}
use Rattle.squawk_fix.specs.Fixing.{IsStep, Reached}
use Rattle.squawk_fix.specs.Round.{Answered, IsNextFix, IsNextText, Ran}
use Rattle.squawk_fix.proofs.Pending.{Behind, FitsHere, Moved, NextIs, OneOf, all_behind, first_is, followed_listed, made_fits, moved_not, moved_on, next_is, there_cases}

-- the laws of answers
pub record Laws : Type 0 where
  pub tried : AnswersCanBeTried
  pub may : FittingFixesMayStep
  pub placed : AnswersPlaced
  pub ascend : AnswersAscend
  pub leave : AnswersLeave

pub laws_of : AnswersCanBeTried → FittingFixesMayStep → AnswersPlaced → AnswersAscend → AnswersLeave → Laws
laws_of tried may placed ascend leave = record { tried = tried; may = may; placed = placed; ascend = ascend; leave = leave }

-- what is known of a value that is there
pub known_of : {X : Type 0} (P : X → Type 0) (o : Option X) → IfSome o P → (x : X) → o ≡ Some x → P x
known_of {X} P o h x is = subst (λ (p : Option X). IfSome p P) is h

-- The text `made` is reached. The reports of listed rules there come from those of `rest`, and each of `rest` whose fix is followed is
-- there.
pub record Progress (text : Text) (vs : List Violation) (a : Answered text vs) (rest : List Violation) (made : Text) (applied : ℕ) : Type 0 where
  pub ran : Ran text vs a made applied
  pub ascend : Ascend rest
  pub from : All (λ u. is_listed u.code ≡ true → OneOf rest (λ v. Moved (length text) (length made) u v)) (reports ran.tree a.rules a.settings)
  pub left : All (λ v. is_followed v.code ≡ true → OneOf (reports ran.tree a.rules a.settings) (λ u. Moved (length text) (length made) u v)) rest

module _ (text : Text) (vs : List Violation) (a : Answered text vs) where
  abbrev answer_of : Tree → List Violation
  answer_of tree = reports tree a.rules a.settings

  -- ---- the beginning and the end

  pub begun : Laws → (made : Text) → made ≡ text → Progress text vs a vs made 0
  begun laws made same = subst (λ (t : Text). Progress text vs a vs t 0) (sym same) here
    where
      themselves : All (λ v. OneOf vs (λ u. Moved (length text) (length text) v u)) vs
      themselves = All-weaker (Contains vs) (λ v. OneOf vs (λ u. Moved (length text) (length text) v u)) (λ v there. (v, there, moved_not (length text) v)) vs (All-contains_itself vs)

      here : Progress text vs a vs text 0
      here = record {
        ran = record { tree = a.tree; of_text = a.of_text; same = a.same; plain = a.plain; reached = refl; few = omega arith };
        ascend = subst Ascend (sym a.are) (laws.ascend a.tree a.rules a.settings);
        from = subst (λ (l : List Violation). All (λ u. is_listed u.code ≡ true → OneOf vs (λ v. Moved (length text) (length text) u v)) l) a.are
            (All-weaker (λ v. OneOf vs (λ u. Moved (length text) (length text) v u)) (λ u. is_listed u.code ≡ true → OneOf vs (λ v. Moved (length text) (length text) u v)) (λ u h listed. h) vs themselves);
        left = subst (λ (l : List Violation). All (λ v. is_followed v.code ≡ true → OneOf l (λ u. Moved (length text) (length text) u v)) vs) a.are
            (All-weaker (λ v. OneOf vs (λ u. Moved (length text) (length text) u v)) (λ v. is_followed v.code ≡ true → OneOf vs (λ u. Moved (length text) (length text) u v)) (λ v h followed. h) vs
            (All-weaker (Contains vs) (λ v. OneOf vs (λ u. Moved (length text) (length text) u v)) (λ v there. (v, there, moved_not (length text) v)) vs (All-contains_itself vs)));
      }

  -- ---- a report of a rule that is not listed

  pub skipped : (v : Violation) (rest : List Violation) (made : Text) (applied : ℕ) → is_listed v.code ≡ false → Progress text vs a (v ∷ rest) made applied → Progress text vs a rest made applied
  skipped v rest made applied unlisted p = record {
    ran = p.ran;
    ascend = p.ascend.1;
    from = All-weaker (λ u. is_listed u.code ≡ true → OneOf (v ∷ rest) (λ x. Moved (length text) (length made) u x)) (λ u. is_listed u.code ≡ true → OneOf rest (λ x. Moved (length text) (length made) u x))
        (λ u h listed. shorter u listed (h listed)) (answer_of p.ran.tree) p.from;
    left = All-tail (λ x. is_followed x.code ≡ true → OneOf (answer_of p.ran.tree) (λ u. Moved (length text) (length made) u x)) v rest p.left;
  }
    where
      shorter : (u : Violation) → is_listed u.code ≡ true → OneOf (v ∷ rest) (λ x. Moved (length text) (length made) u x) → OneOf rest (λ x. Moved (length text) (length made) u x)
      shorter u listed h = by (there_cases v rest h.0 h.1)
        where
          by : (v ≡ h.0) ⊎ Contains rest h.0 → OneOf rest (λ x. Moved (length text) (length made) u x)
          by (inl e) = absurd (false≢true (sym unlisted ∙ ap (λ (x : Violation). is_listed x.code) e ∙ ap is_listed (sym h.2.code) ∙ listed))
          by (inr k) = (h.0, k, h.2)

  -- ---- the next report, whose fix can be made

  module _ (laws : Laws) (v : Violation) (rest : List Violation) (made : Text) (applied : ℕ) (p : Progress text vs a (v ∷ rest) made applied) (utf8 : IsUtf8 made) where
    abbrev tree : Tree
    tree = p.ran.tree

    abbrev R : List Violation
    R = reports p.ran.tree a.rules a.settings

    abbrev M : Violation → Violation → Type 0
    M u x = Moved (length text) (length made) u x

    read : IsRead tree
    read = record { read = p.ran.of_text.1; utf8 = subst IsUtf8 (sym p.ran.of_text.0) utf8 }

    plain : HasNoIgnoreComment tree
    plain = has_none tree.text tree.toks p.ran.plain

    -- the report in the answer, and its fix
    record Here (f : FixValue) : Type 0 where
      pub u : Violation
      pub there : Contains R u
      pub moved : M u v
      pub next : NextIs u.fix f

    module _ (f : FixValue) (n : IsNextFix v rest (length text) (length made) f) where
      here : Here f
      here =
          let found = All-head (λ x. is_followed x.code ≡ true → OneOf R (λ u. M u x)) v rest p.left n.ready.followed in
          record {
            u = found.0;
            there = found.1;
            moved = found.2;
            next = next_is (length text) (length made) found.0 v n.edit f found.2 n.ready.followed n.ready.only n.moved;
          }

      -- what begins later
      behind : All (λ x. is_listed x.code ≡ true → Behind v.text_range.start n.edit.text_range.end x) rest
      behind = all_behind v.text_range.start n.edit.text_range.end rest p.ascend.1 n.ready.first

      listed_u : is_listed here.u.code ≡ true
      listed_u = ap is_listed here.moved.code ∙ followed_listed v.code n.ready.followed

      followed_u : is_followed here.u.code ≡ true
      followed_u = ap is_followed here.moved.code ∙ n.ready.followed

      tried_g : CanBeTried tree.text here.next.fix
      tried_g = subst (λ (o : Option FixValue). IfSome o (CanBeTried tree.text)) here.next.has (All-contains (ListedCanBeTried tree.text) R here.u (laws.tried tree a.rules a.settings read) here.there listed_u)

      pub tried : CanBeTried made f
      tried = record {
        good = subst (λ (es : List Edit). AreGood made es) here.next.same (subst (λ (t : Text). AreGood t here.next.fix.edits) p.ran.of_text.0 tried_g.good);
        few = subst (λ (es : List Edit). length es < 2 ^ 32) here.next.same tried_g.few;
      }

      -- ---- it fits

      module _ (s : Text) (fit : fits made f ≡ true) (text_is : s ≡ edited made f.edits) (utf8_s : IsUtf8 s) where
        abbrev g : FixValue
        g = here.next.fix

        fit_g : fits made g ≡ true
        fit_g = (let same = here.next.same in λ i. list_all (joins_no_word made) (same i) && nat_lt (length (edited made (same i))) (2 ^ 32)) ∙ fit

        -- each report that fits has these edits or begins later
        each : All (λ w. (h : FixValue) → FitsHere made w h → (here.u.text_range.start < w.text_range.start) ⊎ (h.edits ≡ f.edits)) R
        each = All-weaker (λ w. is_listed w.code ≡ true → OneOf (v ∷ rest) (λ x. M w x)) (λ w. (h : FixValue) → FitsHere made w h → (here.u.text_range.start < w.text_range.start) ⊎ (h.edits ≡ f.edits))
            (λ w from h fits_w. one w h fits_w (from fits_w.listed)) R p.from
          where
            one : (w : Violation) (h : FixValue) → FitsHere made w h → OneOf (v ∷ rest) (λ x. M w x) → (here.u.text_range.start < w.text_range.start) ⊎ (h.edits ≡ f.edits)
            one w h fits_w found = by (there_cases v rest found.0 found.1)
              where
                inside : {x y : FixValue} → Some x ≡ Some y → x ≡ y
                inside e = cc

                by : (v ≡ found.0) ⊎ Contains rest found.0 → (here.u.text_range.start < w.text_range.start) ⊎ (h.edits ≡ f.edits)
                by (inl e) =
                    let moved : M w v = subst (M w) (sym e) found.2 in
                    let next = next_is (length text) (length made) w v n.edit f moved n.ready.followed n.ready.only n.moved in
                    inr (ap (λ (x : FixValue). x.edits) (inside (sym fits_w.has ∙ next.has)) ∙ next.same)
                by (inr k) =
                    let listed : is_listed found.0.code ≡ true = ap is_listed (sym found.2.code) ∙ fits_w.listed in
                    let later = All-contains (λ x. is_listed x.code ≡ true → Behind v.text_range.start n.edit.text_range.end x) rest found.0 behind k listed in
                    let low = later.0 in let place = found.2.place in let old = here.moved.place in
                    inl (omega (arith, low, place, old))

        first : (h : FixValue) × (first_fitting made R ≡ Some h) × (h.edits ≡ f.edits)
        first = first_is made (λ h. h.edits ≡ f.edits) here.u g (record { listed = listed_u; has = here.next.has; fit = fit_g }) R (laws.ascend tree a.rules a.settings) here.there each

        step : IsStep a.rules a.settings made s
        step = record {
          reports = R;
          answer = record { tree = tree; of_text = p.ran.of_text; reports_of = refl };
          fix = first.0;
          first = first.1;
          made = text_is ∙ ap (λ (es : List Edit). edited made es) (sym first.2);
        }

        -- ---- the next answer

        fit_tree : fits tree.text g ≡ true
        fit_tree = subst (λ (t : Text). fits t g ≡ true) (sym p.ran.of_text.0) fit_g

        s_is : s ≡ edited tree.text g.edits
        s_is = text_is ∙ (let same = here.next.same in let t = p.ran.of_text.0 in λ i. edited (sym t i) (sym same i))

        may : MayStep tree g
        may = All-contains (IfFitting tree.text (MayStep tree)) R here.u (laws.may tree a.rules a.settings p.ran.of_text.1) here.there listed_u g here.next.has fit_tree

        leaves : AnswerLeaves tree a.rules a.settings here.u g.edits
        leaves =
            All-contains (λ x. is_followed x.code ≡ true → (h : FixValue) → FixLeavesAnswer tree a.rules a.settings x h) R here.u (laws.leave tree a.rules a.settings read plain p.ran.same) here.there followed_u g here.next.has
            may.apart may.short (subst IsUtf8 s_is utf8_s)

        ran : Ran text vs a s (applied + 1)
        ran =
            let less = leaves.steps.less in let few = p.ran.few in
            record {
              tree = leaves.steps.new;
              of_text = (leaves.steps.text ∙ sym s_is, leaves.steps.is);
              same = leaves.same;
              plain = none_has leaves.steps.new.text leaves.steps.new.toks leaves.plain;
              reached = subst (λ (k : ℕ). Reached a.rules a.settings text k s) (sym (add-one applied)) (made, p.ran.reached, step);
              few = omega (arith, less, few);
            }

        -- the one edit, and its place
        abbrev e : Edit
        e = n.moved.edit

        g_one : g.edits ≡ e ∷ []
        g_one = here.next.same ∙ n.moved.one

        placed : IsPlace made e.text_range
        placed =
            let at = All-contains (IsPlaced tree.text) R here.u (laws.placed tree a.rules a.settings read) here.there in
            let edits : AreEdits tree.text g.edits = subst (λ (o : Option FixValue). IfSome o (λ h. AreEdits tree.text h.edits)) here.next.has at.edits in
            subst (λ (t : Text). IsPlace t e.text_range) p.ran.of_text.0
            (All-head (λ (x : Edit). IsPlace tree.text x.text_range) e [] (subst (λ (es : List Edit). All (λ (x : Edit). IsPlace tree.text x.text_range) es) g_one edits.places))

        size : length s ≡ length (edited made (e ∷ []))
        size = ap length (text_is ∙ ap (λ (es : List Edit). edited made es) n.moved.one)

        -- a report that comes from a later one
        further : (w old x : Violation) → Behind v.text_range.start n.edit.text_range.end x → Comes (place_moved g.edits) w old → M old x → Moved (length text) (length s) w x
        further w old x later comes moved =
            let high = later.1 in let place = moved.place in let end = n.moved.end in
            let within = placed.end.0 in
            subst (λ (k : ℕ). Moved (length text) k w x) (sym size)
            (moved_on (length text) made e w old x placed.ordered within (omega (arith, high, place, end)) (subst (λ (es : List Edit). Comes (place_moved es) w old) g_one comes) moved)

        from : All (λ w. is_listed w.code ≡ true → OneOf rest (λ x. Moved (length text) (length s) w x)) (reports leaves.steps.new a.rules a.settings)
        from = All-weaker (λ w. is_listed w.code ≡ true → ComesFrom (place_moved g.edits) R here.u w) (λ w. is_listed w.code ≡ true → OneOf rest (λ x. Moved (length text) (length s) w x)) (λ w h listed. carry w listed (h listed))
            (reports leaves.steps.new a.rules a.settings) leaves.from
          where
            carry : (w : Violation) → is_listed w.code ≡ true → ComesFrom (place_moved g.edits) R here.u w → OneOf rest (λ x. Moved (length text) (length s) w x)
            carry w listed c = by (All-contains (λ u. is_listed u.code ≡ true → OneOf (v ∷ rest) (λ x. M u x)) R c.old p.from c.there (ap is_listed (sym c.comes.same.code) ∙ listed))
              where
                found_in : (x : Violation) → M c.old x → (v ≡ x) ⊎ Contains rest x → OneOf rest (λ y. Moved (length text) (length s) w y)
                found_in x moved (inl same) =
                    let moved_v : M c.old v = subst (M c.old) (sym same) moved in
                    let p' = moved_v.place in let q' = here.moved.place in
                    let start : c.old.text_range.start ≡ here.u.text_range.start = omega (arith, p', q') in
                    absurd (c.other (record { code = c.comes.same.code ∙ moved_v.code ∙ sym here.moved.code; place = c.comes.same.place ∙ ap (place_moved g.edits) start }))
                found_in x moved (inr k) =
                    let listed_x : is_listed x.code ≡ true = ap is_listed (sym moved.code) ∙ ap is_listed (sym c.comes.same.code) ∙ listed in
                    let later = All-contains (λ y. is_listed y.code ≡ true → Behind v.text_range.start n.edit.text_range.end y) rest x behind k listed_x in
                    (x, k, further w c.old x later c.comes moved)

                by : OneOf (v ∷ rest) (λ x. M c.old x) → OneOf rest (λ x. Moved (length text) (length s) w x)
                by h = found_in h.0 h.2 (there_cases v rest h.0 h.1)

        left : All (λ x. is_followed x.code ≡ true → OneOf (reports leaves.steps.new a.rules a.settings) (λ w. Moved (length text) (length s) w x)) rest
        left k d low = λ followed.
            still (get_or rest k d) (behind k d low (followed_listed (get_or rest k d).code followed))
            (All-tail (λ x. is_followed x.code ≡ true → OneOf R (λ u. M u x)) v rest p.left k d low followed) followed
          where
            still : (x : Violation) → Behind v.text_range.start n.edit.text_range.end x → OneOf R (λ u. M u x) → is_followed x.code ≡ true → OneOf (reports leaves.steps.new a.rules a.settings) (λ w. Moved (length text) (length s) w x)
            still x later found followed =
                by (All-contains (λ u. is_followed u.code ≡ true → IsLeft (place_moved g.edits) here.u.text_range.start (reports leaves.steps.new a.rules a.settings) u) R found.0 leaves.left found.1 (ap is_followed found.2.code ∙ followed))
              where
                by : IsLeft (place_moved g.edits) here.u.text_range.start (reports leaves.steps.new a.rules a.settings) found.0 → OneOf (reports leaves.steps.new a.rules a.settings) (λ w. Moved (length text) (length s) w x)
                by (inl gone) = absurd (let low = later.0 in let q = found.2.place in let r = here.moved.place in omega (arith, gone, low, q, r))
                by (inr w) = (w.0, w.1, further w.0 found.0 x later w.2 found.2)

        pub progressed : Progress text vs a rest s (applied + 1)
        unfolding ran
        progressed = record { ran = ran; ascend = p.ascend.1; from = from; left = left }

    pub stepped : (s : Text) → IsUtf8 s → IsNextText v rest (length text) (length made) made s → Progress text vs a rest s (applied + 1)
    stepped s utf8_s next = let m = made_fits made next.fix s next.made in progressed next.fix next.next s m.fit m.text_is utf8_s
