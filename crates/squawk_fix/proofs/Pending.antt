-- Reports whose fixes are still to be made: where they and their fixes are in the text as it is.
use Rattle.std.proofs.Common.{◌≡◌, ◌∙◌, ℕ, zero, suc, ◌+◌, ◌-◌, ◌<◌, ◌≤◌, ◌⊎◌, inl, inr, Bool, true, false, cond, List, [], ◌∷◌, ◌++◌, length, get_or, drop, sym, refl, ap, subst, arith, length-append, Option, Some, None}
use Rattle.std.proofs.lemmas.Bool.{false≢true}
use Rattle.std.proofs.lemmas.Bool.Decides.{nat_tests}
use Rattle.std.proofs.lemmas.List.{length-drop, length-take-le}
use Rattle.std.proofs.lemmas.List.Elements.{All-cons, All-contains, All-head, All-nil, All-tail, All-weaker}
use Rattle.std.specs.Option.{option_map, option_or}
use Rattle.std.specs.Prelude.{All, Contains, ◌&&◌, nat_le, nat_lt, slice_range}
use Rattle.law_next_fix.specs.sql_token.Token.{Text}
use Rattle.squawk_run.specs.lint_base.declared.edit.Edit.{Edit}
use Rattle.squawk_run.specs.lint_base.declared.rule.Rule.{Rule}
use Rattle.squawk_run.specs.lint_base.declared.rule.Rule.TheVariants as rule
use Rattle.squawk_run.specs.lint_base.declared.violation.Violation.{Violation}
use Rattle.squawk_run.specs.lint_base.Fixes.{FixValue}
use Rattle.law_next_fix.specs.law_fixes.Edited.{edited, place_moved, put_by}
use Rattle.law_next_fix.specs.law_fix_steps.Leaves.{is_followed}
use Rattle.law_next_fix.specs.law_fix_steps.Left.{EditFollows, EditsFollow, FixFollows}
use Rattle.law_next_fix.specs.law_fix_steps.Listed.{is_listed}
use Rattle.law_next_fix.specs.law_answer_steps.Leaves.{Ascend, Comes}
use Rattle.law_next_fix.specs.fix_choice.Fits.{first_fitting, fits, fitting, listed_fix, made_by, with_fix}
use Rattle.law_next_fix.specs.squawk_linter.Reports.{start_of}
use Rattle.squawk_fix.specs.Round.{HasOnly, IsMoved, comes_first}

-- ---- members

-- some element has R
abbrev pub OneOf : List Violation → (Violation → Type 0) → Type 0
OneOf vs R = (v : Violation) × Contains vs v × R v

pub there_cases : (x : Violation) (xs : List Violation) (y : Violation) → Contains (x ∷ xs) y → (x ≡ y) ⊎ Contains xs y
there_cases x xs y h = by h.0 h.1 h.2
  where
    by : (k : ℕ) → k < length (x ∷ xs) → get_or (x ∷ xs) k y ≡ y → (x ≡ y) ⊎ Contains xs y
    by zero low e = inl e
    by (suc k) low e = inr (k, omega (arith, low), e)

-- ---- fixes that keep their distance

edits_follow : (a b c : ℕ) (es ds cs : List Edit) → EditsFollow a b es ds → EditsFollow b c ds cs → EditsFollow a c es cs
edits_follow a b c [] [] [] h k = tt
edits_follow a b c [] [] (x ∷ cs) h k = absurd k
edits_follow a b c [] (d ∷ ds) cs h k = absurd h
edits_follow a b c (e ∷ es) [] cs h k = absurd h
edits_follow a b c (e ∷ es) (d ∷ ds) [] h k = absurd k
edits_follow a b c (e ∷ es) (d ∷ ds) (x ∷ cs) h k = (
  record {
    text = h.0.text ∙ k.0.text;
    start = further e.text_range.start d.text_range.start x.text_range.start h.0.start k.0.start;
    end = further e.text_range.end d.text_range.end x.text_range.end h.0.end k.0.end;
  },
  edits_follow a b c es ds cs h.1 k.1,
)
  where
    further : (p q r : ℕ) → p + b ≡ q + a → q + c ≡ r + b → p + c ≡ r + a
    further p q r h k = omega arith

fix_follows : (a b c : ℕ) (o p q : Option FixValue) → FixFollows a b o p → FixFollows b c p q → FixFollows a c o q
fix_follows a b c None None None h k = tt
fix_follows a b c None None (Some z) h k = absurd k
fix_follows a b c None (Some y) q h k = absurd h
fix_follows a b c (Some x) None q h k = absurd h
fix_follows a b c (Some x) (Some y) None h k = absurd k
fix_follows a b c (Some x) (Some y) (Some z) h k = edits_follow a b c x.edits y.edits z.edits h k

edits_same : (a : ℕ) (es : List Edit) → EditsFollow a a es es
edits_same a [] = tt
edits_same a (e ∷ es) = (record { text = refl; start = refl; end = refl }, edits_same a es)

fix_same : (a : ℕ) (o : Option FixValue) → FixFollows a a o o
fix_same a None = tt
fix_same a (Some f) = edits_same a f.edits

-- ---- reports that are moved

-- The report u is v, where a text of one length became one of another length before it.
pub record Moved (from to : ℕ) (u v : Violation) : Type 0 where
  pub code : u.code ≡ v.code
  pub place : u.text_range.start + from ≡ v.text_range.start + to
  pub fix : is_followed v.code ≡ true → FixFollows u.text_range.start v.text_range.start u.fix v.fix

pub moved_not : (from : ℕ) (v : Violation) → Moved from from v v
moved_not from v = record { code = refl; place = refl; fix = λ followed. fix_same v.text_range.start v.fix }

-- The fix of such a report has the edits of the next fix.
pub record NextIs (o : Option FixValue) (f : FixValue) : Type 0 where
  pub fix : FixValue
  pub has : o ≡ Some fix
  pub same : fix.edits ≡ f.edits

same_edit : (from to a b : ℕ) (d e x : Edit) → a + from ≡ b + to → EditFollows a b d e → x.text ≡ e.text → x.text_range.start + from ≡ e.text_range.start + to → x.text_range.end + from ≡ e.text_range.end + to → d ≡ x
same_edit from to a b d e x place h text start end =
    let p = same d.text_range.start e.text_range.start x.text_range.start h.start start in
    let q = same d.text_range.end e.text_range.end x.text_range.end h.end end in
    let t = h.text ∙ sym text in
    λ i. record { text_range = record { start = p i; end = q i }; text = t i }
  where
    same : (p q r : ℕ) → p + b ≡ q + a → r + from ≡ q + to → p ≡ r
    same p q r h k = omega arith

one_edit : (from to a b : ℕ) (ds : List Edit) (e : Edit) (f : FixValue) → a + from ≡ b + to → EditsFollow a b ds (e ∷ []) → IsMoved from to e f → ds ≡ f.edits
one_edit from to a b [] e f place h m = absurd h
one_edit from to a b (d ∷ []) e f place h m = ap (λ (x : Edit). x ∷ []) (same_edit from to a b d e m.edit place h.0 m.text m.start m.end) ∙ sym m.one
one_edit from to a b (d ∷ d' ∷ ds) e f place h m = absurd h.1

pub next_is : (from to : ℕ) (u v : Violation) (e : Edit) (f : FixValue) → Moved from to u v → is_followed v.code ≡ true → HasOnly v e → IsMoved from to e f → NextIs u.fix f
next_is from to u v e f moved followed only m = by u.fix (subst (FixFollows u.text_range.start v.text_range.start u.fix) only.has (moved.fix followed))
  where
    by : (o : Option FixValue) → FixFollows u.text_range.start v.text_range.start o (Some only.fix) → NextIs o f
    by None h = absurd h
    by (Some g) h =
        record {
          fix = g;
          has = refl;
          same = one_edit from to u.text_range.start v.text_range.start g.edits e f moved.place (subst (EditsFollow u.text_range.start v.text_range.start g.edits) only.one h) m;
        }

-- ---- what comes later

-- it begins behind these places
abbrev pub Behind : ℕ → ℕ → Violation → Type 0
Behind start end v = (start < v.text_range.start) × (end ≤ v.text_range.start)

pub all_behind : (start end : ℕ) (vs : List Violation) → Ascend vs → comes_first start end vs ≡ true → All (λ v. is_listed v.code ≡ true → Behind start end v) vs
all_behind start end [] up first = All-nil (λ v. is_listed v.code ≡ true → Behind start end v)
all_behind start end (v ∷ vs) up first = by (is_listed v.code) refl first (all_behind start end vs up.1)
  where
    tests : (a : ℕ) → (nat_lt start a && nat_le end a) ≡ true → (start < a) × (end ≤ a)
    tests a h = both (nat_lt start a) (nat_le end a) refl refl h
      where
        both : (x y : Bool) → nat_lt start a ≡ x → nat_le end a ≡ y → (x && y) ≡ true → (start < a) × (end ≤ a)
        both true true p q h = (grind (arith, nat_tests, p), grind (arith, nat_tests, q))
        both true false p q h = absurd (false≢true h)
        both false y p q h = absurd (false≢true h)

    by : (b : Bool) → is_listed v.code ≡ b → cond b (nat_lt start v.text_range.start && nat_le end v.text_range.start) (comes_first start end vs) ≡ true → (comes_first start end vs ≡ true → All (λ x. is_listed x.code ≡ true → Behind start end x) vs) → All (λ x. is_listed x.code ≡ true → Behind start end x) (v ∷ vs)
    by true e h rest =
        let here = tests v.text_range.start h in
        let low = here.0 in let high = here.1 in
        All-cons (λ x. is_listed x.code ≡ true → Behind start end x) v vs (λ listed. here)
        (All-weaker (λ x. start_of v ≤ start_of x) (λ x. is_listed x.code ≡ true → Behind start end x) (λ x le listed. (omega (arith, low, le), omega (arith, high, le))) vs up.0)
    by false e h rest = All-cons (λ x. is_listed x.code ≡ true → Behind start end x) v vs (λ listed. absurd (false≢true (sym e ∙ listed))) (rest h)

-- a rule whose fixes are followed is listed
pub followed_listed : (r : Rule) → is_followed r ≡ true → is_listed r ≡ true
followed_listed rule.RequireConcurrentIndexCreation h = refl
followed_listed rule.RequireConcurrentIndexDeletion h = refl
followed_listed rule.RequireConcurrentReindex h = refl
followed_listed rule.PreferBigintOverInt h = refl
followed_listed rule.PreferBigintOverSmallint h = refl
followed_listed rule.PreferTextField h = refl
followed_listed rule.PreferTimestampTz h = refl
followed_listed r h = absurd (cc)

-- ---- one edit

length_edited : (t : Text) (e : Edit) → e.text_range.start ≤ e.text_range.end → e.text_range.end ≤ length t → length (edited t (e ∷ [])) + (e.text_range.end - e.text_range.start) ≡ length t + length (put_by e)
length_edited t e p q =
    let all = length-append (slice_range t 0 e.text_range.start) (put_by e ++ drop e.text_range.end t) in
    let rest = length-append (put_by e) (drop e.text_range.end t) in
    let whole = length-drop 0 t in
    let front = length-take-le (e.text_range.start - 0) (drop 0 t) (omega (arith, p, q, whole)) in
    let tail = length-drop e.text_range.end t in
    omega (arith, p, q, all, rest, front, tail)

place_behind : (e : Edit) (x : ℕ) → e.text_range.end ≤ x → place_moved (e ∷ []) x ≡ x + length (put_by e) - (e.text_range.end - e.text_range.start)
place_behind e x h = by (nat_le e.text_range.end x) refl
  where
    by : (b : Bool) → nat_le e.text_range.end x ≡ b → cond b (x + length (put_by e) - (e.text_range.end - e.text_range.start)) x ≡ x + length (put_by e) - (e.text_range.end - e.text_range.start)
    by true k = refl
    by false k = absurd (let n : x < e.text_range.end = grind (arith, nat_tests, k) in omega (arith, h, n))

-- a report behind the edit, one text further on
pub moved_on : (from : ℕ) (t : Text) (e : Edit) (w u v : Violation) → e.text_range.start ≤ e.text_range.end → e.text_range.end ≤ length t → e.text_range.end ≤ u.text_range.start →
    Comes (place_moved (e ∷ [])) w u → Moved from (length t) u v → Moved from (length (edited t (e ∷ []))) w v
moved_on from t e w u v order within behind comes moved =
    let place : w.text_range.start ≡ u.text_range.start + length (put_by e) - (e.text_range.end - e.text_range.start) = comes.same.place ∙ place_behind e u.text_range.start behind in
    let size = length_edited t e order within in
    let old = moved.place in
    record {
      code = comes.same.code ∙ moved.code;
      place = omega (arith, place, size, old, order, within, behind);
      fix = λ followed.
          fix_follows w.text_range.start u.text_range.start v.text_range.start w.fix u.fix v.fix (comes.fix (ap is_followed moved.code ∙ followed)) (moved.fix followed);
    }

-- ---- the first fix that fits

inside : {x y : FixValue} → Some x ≡ Some y → x ≡ y
inside e = cc

-- of a listed rule, and it fits
pub record FitsHere (text : Text) (w : Violation) (h : FixValue) : Type 0 where
  pub listed : is_listed w.code ≡ true
  pub has : w.fix ≡ Some h
  pub fit : fits text h ≡ true

fits_here : (text : Text) (w : Violation) (h : FixValue) → fitting text (listed_fix w) ≡ Some h → FitsHere text w h
fits_here text w h e = by (is_listed w.code) refl e
  where
    by_fit : is_listed w.code ≡ true → (g : FixValue) → w.fix ≡ Some g → (b : Bool) → fits text g ≡ b → cond b (Some g) None ≡ Some h → FitsHere text w h
    by_fit listed g has true fit e = record { listed = listed; has = has ∙ e; fit = subst (λ (x : FixValue). fits text x ≡ true) (inside e) fit }
    by_fit listed g has false fit e = cc

    by_fix : is_listed w.code ≡ true → (o : Option FixValue) → w.fix ≡ o → fitting text o ≡ Some h → FitsHere text w h
    by_fix listed None has e = cc
    by_fix listed (Some g) has e = by_fit listed g has (fits text g) refl e

    by : (b : Bool) → is_listed w.code ≡ b → fitting text (cond b w.fix None) ≡ Some h → FitsHere text w h
    by true listed e = by_fix listed w.fix refl e
    by false listed e = cc

here_fits : (text : Text) (w : Violation) (h : FixValue) → FitsHere text w h → fitting text (listed_fix w) ≡ Some h
here_fits text w h f =
    (let listed = f.listed in let has = f.has in λ i. fitting text (cond (listed i) (has i) None)) ∙ (let fit = f.fit in λ i. cond (fit i) (Some h) None)

-- The first fix that fits is P, if some report has one that fits, and each other one that fits is P or later.
pub first_is : (text : Text) (P : FixValue → Type 0) (u : Violation) (g : FixValue) → FitsHere text u g → (vs : List Violation) → Ascend vs → Contains vs u →
    All (λ w. (h : FixValue) → FitsHere text w h → (u.text_range.start < w.text_range.start) ⊎ P h) vs → (h : FixValue) × (first_fitting text vs ≡ Some h) × P h
first_is text P u g fit [] up there each = absurd (let low = there.1 in omega (arith, low))
first_is text P u g fit (w ∷ ws) up there each =
    by (fitting text (listed_fix w)) refl (λ k. first_is text P u g fit ws up.1 k (All-tail (λ x. (h : FixValue) → FitsHere text x h → (u.text_range.start < x.text_range.start) ⊎ P h) w ws each))
  where
    first_there : u.text_range.start < w.text_range.start → (w ≡ u) ⊎ Contains ws u → ⊥
    first_there less (inl e) = let same = ap start_of e in omega (arith, less, same)
    first_there less (inr k) = let more = All-contains (λ x. start_of w ≤ start_of x) ws u up.0 k in omega (arith, less, more)

    chosen : (h : FixValue) → fitting text (listed_fix w) ≡ Some h → (u.text_range.start < w.text_range.start) ⊎ P h → P h
    chosen h e (inl less) = absurd (first_there less (there_cases w ws u there))
    chosen h e (inr p) = p

    rest : (Contains ws u → (h : FixValue) × (first_fitting text ws ≡ Some h) × P h) → fitting text (listed_fix w) ≡ None → (w ≡ u) ⊎ Contains ws u → (h : FixValue) × (first_fitting text ws ≡ Some h) × P h
    rest again e (inl same) = absurd (let some : Some g ≡ None = sym (here_fits text u g fit) ∙ ap (λ (x : Violation). fitting text (listed_fix x)) (sym same) ∙ e in cc)
    rest again e (inr k) = again k

    by : (o : Option FixValue) → fitting text (listed_fix w) ≡ o → (Contains ws u → (h : FixValue) × (first_fitting text ws ≡ Some h) × P h) → (h : FixValue) × (option_or (fitting text (listed_fix w)) (first_fitting text ws) ≡ Some h) × P h
    by (Some h) e again = (
      h,
      ap (λ (o : Option FixValue). option_or o (first_fitting text ws)) e,
      chosen h e (All-head (λ x. (h : FixValue) → FitsHere text x h → (u.text_range.start < x.text_range.start) ⊎ P h) w ws each h (fits_here text w h e)),
    )
    by None e again =
        let r = rest again e (there_cases w ws u there) in
        (r.0, ap (λ (o : Option FixValue). option_or o (first_fitting text ws)) e ∙ r.1, r.2)

-- ---- a text that was made

pub record MadeFits (text : Text) (f : FixValue) (s : Text) : Type 0 where
  pub fit : fits text f ≡ true
  pub text_is : s ≡ edited text f.edits

pub made_fits : (text : Text) (f : FixValue) (s : Text) → made_by text f ≡ Some s → MadeFits text f s
made_fits text f s e = by (fits text f) refl e
  where
    inside_text : {x y : Text} → Some x ≡ Some y → x ≡ y
    inside_text e = cc

    by : (b : Bool) → fits text f ≡ b → option_map (with_fix text) (cond b (Some f) None) ≡ Some s → MadeFits text f s
    by true fit e = record { fit = fit; text_is = sym (inside_text e) }
    by false fit e = cc
