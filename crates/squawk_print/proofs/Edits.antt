-- Printed edits and fixes determine what they are of.
use Rattle.std.proofs.Common.{◌≡◌, ℕ, ◌<◌, ◌^◌, ◌==◌, ◌&&◌, Bool, true, false, List, [], ◌∷◌, ◌++◌, refl, ap, sym, ◌∙◌, append_assoc, arith, codes, decimal, if◌then◌else◌, Option, Some, None}
use Rattle.std.proofs.lemmas.Bool.{ne_eqb, eqb-true, eq-eqb}
use Rattle.std.proofs.lemmas.List.{append_cancel_left}
use Rattle.std.specs.List.{flat_map}
use Rattle.lint_base.specs.text_pos.Range.{Range}
use Rattle.lint_base.specs.declared.edit.Edit.{Edit}
use Rattle.lint_base.specs.Fixes.{FixValue}
use Rattle.squawk_print.specs.Escaped.{escaped}
use Rattle.squawk_print.specs.Printed.{printed_range, labelled, quoted, insertion, replacement, deletion, printed_change, printed_edit, printed_fix}
use Rattle.squawk_print.specs.PrintedForm.{RangeFits, EditsFit, FixFits}
use Rattle.squawk_print.proofs.Escaping.{escaped_cut, feed_ends, quote_ends}
use Rattle.squawk_print.proofs.Cuts.{IsDigit, decimal_cut}

-- ---- what follows

-- the text does not begin with a space
abbrev pub IsOther : List ℕ → Type 0
IsOther [] = Unit {0}
IsOther (c ∷ cs) = c ≡ 32 → ⊥

abbrev pub begins : List ℕ → List ℕ → Bool
begins [] text = true
begins (c ∷ label) [] = false
begins (c ∷ label) (x ∷ text) = c == x && begins label text

pub other_begins : (label text : List ℕ) → IsOther text → begins (32 ∷ label) text ≡ false
other_begins label [] h = refl
other_begins label (x ∷ text) h = ap (λ b. b && begins label text) (ne_eqb 32 x (λ e. h (sym e)))

label_begins : (label text : List ℕ) → begins label (label ++ text) ≡ true
label_begins [] text = refl
label_begins (c ∷ label) text = ap (λ b. b && begins label (label ++ text)) (eq-eqb c c refl) ∙ label_begins label text

-- ---- lines

three_joined : (a b c k : List ℕ) → ((a ++ b) ++ c) ++ k ≡ a ++ (b ++ (c ++ k))
three_joined a b c k = simp append_assoc

four_joined : (a b c d k : List ℕ) → (((a ++ b) ++ c) ++ d) ++ k ≡ a ++ (b ++ (c ++ (d ++ k)))
four_joined a b c d k = simp append_assoc

line_flat : (label text r : List ℕ) → (label ++ escaped text ++ codes "\n") ++ r ≡ label ++ (escaped text ++ 10 ∷ r)
line_flat label text r = three_joined label (escaped text) (codes "\n") r

pub line_cut : (label t u r s : List ℕ) → (label ++ escaped t ++ codes "\n") ++ r ≡ (label ++ escaped u ++ codes "\n") ++ s → (t ≡ u) × (r ≡ s)
line_cut label t u r s e =
    escaped_cut t u 10 r s feed_ends
    (append_cancel_left label (escaped t ++ 10 ∷ r) (escaped u ++ 10 ∷ s) (sym (line_flat label t r) ∙ e ∙ line_flat label u s))

not_labelled : (label t r s : List ℕ) → begins label r ≡ false → r ≡ (label ++ escaped t ++ codes "\n") ++ s → ⊥
not_labelled label t r s h e =
    let k : begins label r ≡ true = ap (begins label) (e ∙ line_flat label t s) ∙ label_begins label (escaped t ++ 10 ∷ s) in cc

pub labelled_cut : (label : List ℕ) (x y : Option (List ℕ)) (r s : List ℕ) → begins label r ≡ false → begins label s ≡ false
    → labelled label x ++ r ≡ labelled label y ++ s → (x ≡ y) × (r ≡ s)
labelled_cut label None None r s hr hs e = (refl, e)
labelled_cut label None (Some u) r s hr hs e = absurd (not_labelled label u r s hr e)
labelled_cut label (Some t) None r s hr hs e = absurd (not_labelled label t s r hs (sym e))
labelled_cut label (Some t) (Some u) r s hr hs e = let k = line_cut label t u r s e in (ap Some k.0, k.1)

-- ---- ranges

space : IsDigit 32 → ⊥
space h = absurd (omega (arith, h.0))

point : IsDigit 46 → ⊥
point h = absurd (omega (arith, h.0))

feed : IsDigit 10 → ⊥
feed h = absurd (omega (arith, h.0))

pub range_flat : (x : Range) (k : List ℕ) → printed_range x ++ k ≡ decimal x.start ++ 46 ∷ 46 ∷ (decimal x.end ++ k)
range_flat x k = three_joined (decimal x.start) (codes "..") (decimal x.end) k

pub range_cut : (x y : Range) (d : ℕ) (r s : List ℕ) → RangeFits x → RangeFits y → (IsDigit d → ⊥)
    → printed_range x ++ d ∷ r ≡ printed_range y ++ d ∷ s → (x ≡ y) × (r ≡ s)
range_cut x y d r s hx hy nd e =
    let a = decimal_cut x.start y.start 46 46 (46 ∷ (decimal x.end ++ d ∷ r)) (46 ∷ (decimal y.end ++ d ∷ s)) hx.0 hy.0 point point (sym (range_flat x (d ∷ r)) ∙ e ∙ range_flat y (d ∷ s)) in
    let a1 : decimal x.end ++ d ∷ r ≡ decimal y.end ++ d ∷ s = let h = a.1 in cc in
    let b = decimal_cut x.end y.end d d r s hx.1 hy.1 nd nd a1 in
    let f : ℕ → Range = λ n. record { start = n; end = x.end } in
    let g : ℕ → Range = λ n. record { start = y.start; end = n } in
    (ap f a.0 ∙ ap g b.0, (let h = b.1 in cc))

-- ---- edits

quoted_flat : (t r : List ℕ) → quoted t ++ r ≡ 32 ∷ 34 ∷ (escaped t ++ 34 ∷ 10 ∷ r)
quoted_flat t r = three_joined (codes " \"") (escaped t) (codes "\"\n") r

insertion_flat : (at : ℕ) (t r : List ℕ) → insertion at t ++ r ≡ codes "    insert " ++ (decimal at ++ 32 ∷ (34 ∷ (escaped t ++ 34 ∷ 10 ∷ r)))
insertion_flat at t r =
    three_joined (codes "    insert ") (decimal at) (quoted t) r
    ∙ ap (λ x. codes "    insert " ++ (decimal at ++ x)) (quoted_flat t r)

replacement_flat : (x : Range) (t r : List ℕ) → replacement x t ++ r ≡ codes "    replace " ++ (printed_range x ++ 32 ∷ (34 ∷ (escaped t ++ 34 ∷ 10 ∷ r)))
replacement_flat x t r =
    three_joined (codes "    replace ") (printed_range x) (quoted t) r
    ∙ ap (λ k. codes "    replace " ++ (printed_range x ++ k)) (quoted_flat t r)

deletion_flat : (x : Range) (r : List ℕ) → deletion x ++ r ≡ codes "    delete " ++ (printed_range x ++ 10 ∷ r)
deletion_flat x r = three_joined (codes "    delete ") (printed_range x) (codes "\n") r

text_cut : (t u r s : List ℕ) → 34 ∷ (escaped t ++ 34 ∷ 10 ∷ r) ≡ 34 ∷ (escaped u ++ 34 ∷ 10 ∷ s) → (t ≡ u) × (r ≡ s)
text_cut t u r s e =
    let k : escaped t ++ 34 ∷ 10 ∷ r ≡ escaped u ++ 34 ∷ 10 ∷ s = cc in
    let m = escaped_cut t u 34 (10 ∷ r) (10 ∷ s) quote_ends k in
    (m.0, (let h = m.1 in cc))

insertion_cut : (a b : ℕ) (t u r s : List ℕ) → a < 2 ^ 32 → b < 2 ^ 32 → insertion a t ++ r ≡ insertion b u ++ s → (a ≡ b) × (t ≡ u) × (r ≡ s)
insertion_cut a b t u r s ha hb e =
    let k = append_cancel_left (codes "    insert ") _ _ (sym (insertion_flat a t r) ∙ e ∙ insertion_flat b u s) in
    let m = decimal_cut a b 32 32 (34 ∷ (escaped t ++ 34 ∷ 10 ∷ r)) (34 ∷ (escaped u ++ 34 ∷ 10 ∷ s)) ha hb space space k in
    let n = text_cut t u r s (let h = m.1 in cc) in
    (m.0, n.0, n.1)

replacement_cut : (x y : Range) (t u r s : List ℕ) → RangeFits x → RangeFits y → replacement x t ++ r ≡ replacement y u ++ s → (x ≡ y) × (t ≡ u) × (r ≡ s)
replacement_cut x y t u r s hx hy e =
    let k = append_cancel_left (codes "    replace ") _ _ (sym (replacement_flat x t r) ∙ e ∙ replacement_flat y u s) in
    let m = range_cut x y 32 (34 ∷ (escaped t ++ 34 ∷ 10 ∷ r)) (34 ∷ (escaped u ++ 34 ∷ 10 ∷ s)) hx hy space k in
    let n = text_cut t u r s m.1 in
    (m.0, n.0, n.1)

deletion_cut : (x y : Range) (r s : List ℕ) → RangeFits x → RangeFits y → deletion x ++ r ≡ deletion y ++ s → (x ≡ y) × (r ≡ s)
deletion_cut x y r s hx hy e =
    range_cut x y 10 r s hx hy feed (append_cancel_left (codes "    delete ") _ _ (sym (deletion_flat x r) ∙ e ∙ deletion_flat y s))

-- the fifth byte of a line tells the kinds of edits apart
fifth : List ℕ → ℕ
fifth (a ∷ b ∷ c ∷ d ∷ e ∷ rest) = e
fifth _ = 0

kind_letter : Range → Option (List ℕ) → ℕ
kind_letter x None = 100
kind_letter x (Some t) = if x.start == x.end then 105 else 114

change_by : (b : Bool) (x : Range) (t r : List ℕ) → fifth ((if b then insertion x.start t else replacement x t) ++ r) ≡ (if b then 105 else 114)
unfolding fifth
change_by true x t r = refl
change_by false x t r = refl

change_letter : (x : Range) (t : Option (List ℕ)) (r : List ℕ) → fifth (printed_change x t ++ r) ≡ kind_letter x t
unfolding fifth kind_letter
change_letter x None r = refl
change_letter x (Some t) r = change_by (x.start == x.end) x t r

both_empty : (x y : Range) → x.start == x.end ≡ true → y.start == y.end ≡ true → x.start ≡ y.start → x ≡ y
both_empty x y hx hy e =
    let ex : x.start ≡ x.end = eqb-true x.start x.end hx in
    let ey : y.start ≡ y.end = eqb-true y.start y.end hy in
    let f : ℕ → Range = λ n. record { start = n; end = x.end } in
    let g : ℕ → Range = λ n. record { start = y.start; end = n } in
    ap f e ∙ ap g (sym ex ∙ e ∙ ey)

texts_cut : (x y : Range) (b c : Bool) (t u r s : List ℕ) → x.start == x.end ≡ b → y.start == y.end ≡ c → RangeFits x → RangeFits y
    → (if b then insertion x.start t else replacement x t) ++ r ≡ (if c then insertion y.start u else replacement y u) ++ s → (x ≡ y) × (t ≡ u) × (r ≡ s)
texts_cut x y true true t u r s hb hc hx hy e =
    let k = insertion_cut x.start y.start t u r s hx.0 hy.0 e in (both_empty x y hb hc k.0, k.1, k.2)
texts_cut x y true false t u r s hb hc hx hy e = let d : 105 ≡ 114 = sym (change_by true x t r) ∙ ap fifth e ∙ change_by false y u s in absurd (omega (arith, d))
texts_cut x y false true t u r s hb hc hx hy e = let d : 114 ≡ 105 = sym (change_by false x t r) ∙ ap fifth e ∙ change_by true y u s in absurd (omega (arith, d))
texts_cut x y false false t u r s hb hc hx hy e = replacement_cut x y t u r s hx hy e

delete_no_text : (x y : Range) (c : Bool) (u r s : List ℕ) → deletion x ++ r ≡ (if c then insertion y.start u else replacement y u) ++ s → ⊥
unfolding fifth
delete_no_text x y true u r s e = let d : 100 ≡ 105 = ap fifth e ∙ change_by true y u s in absurd (omega (arith, d))
delete_no_text x y false u r s e = let d : 100 ≡ 114 = ap fifth e ∙ change_by false y u s in absurd (omega (arith, d))

change_cut : (x y : Range) (t u : Option (List ℕ)) (r s : List ℕ) → RangeFits x → RangeFits y → printed_change x t ++ r ≡ printed_change y u ++ s → (x ≡ y) × (t ≡ u) × (r ≡ s)
change_cut x y None None r s hx hy e = let k = deletion_cut x y r s hx hy e in (k.0, refl, k.1)
change_cut x y None (Some u) r s hx hy e = absurd (delete_no_text x y (y.start == y.end) u r s e)
change_cut x y (Some t) None r s hx hy e = absurd (delete_no_text y x (x.start == x.end) t s r (sym e))
change_cut x y (Some t) (Some u) r s hx hy e =
    let k = texts_cut x y (x.start == x.end) (y.start == y.end) t u r s refl refl hx hy e in (k.0, ap Some k.1, k.2)

pub edit_cut : (e f : Edit) (r s : List ℕ) → RangeFits e.text_range → RangeFits f.text_range → printed_edit e ++ r ≡ printed_edit f ++ s → (e ≡ f) × (r ≡ s)
edit_cut e f r s he hf h =
    let k = change_cut e.text_range f.text_range e.text f.text r s he hf h in
    let p : Range → Edit = λ x. record { text_range = x; text = e.text } in
    let q : Option (List ℕ) → Edit = λ t. record { text_range = f.text_range; text = t } in
    (ap p k.0 ∙ ap q k.1, k.2)

text_spaces : (b : Bool) (x : Range) (t r k : List ℕ) → IsOther k → k ≡ (if b then insertion x.start t else replacement x t) ++ r → ⊥
text_spaces true x t r [] h e = absurd (cc)
text_spaces true x t r (c ∷ cs) h e = h (cc)
text_spaces false x t r [] h e = absurd (cc)
text_spaces false x t r (c ∷ cs) h e = h (cc)

edit_spaces : (x : Range) (t : Option (List ℕ)) (r k : List ℕ) → IsOther k → k ≡ printed_change x t ++ r → ⊥
edit_spaces x None r [] h e = absurd (cc)
edit_spaces x None r (c ∷ cs) h e = h (cc)
edit_spaces x (Some t) r k h e = text_spaces (x.start == x.end) x t r k h e

pub edits_cut : (es fs : List Edit) (r s : List ℕ) → EditsFit es → EditsFit fs → IsOther r → IsOther s
    → flat_map printed_edit es ++ r ≡ flat_map printed_edit fs ++ s → (es ≡ fs) × (r ≡ s)
edits_cut [] [] r s he hf hr hs e = (refl, e)
edits_cut [] (f ∷ fs) r s he hf hr hs e =
    absurd (edit_spaces f.text_range f.text (flat_map printed_edit fs ++ s) r hr (e ∙ append_assoc (printed_edit f) (flat_map printed_edit fs) s))
edits_cut (e ∷ es) [] r s he hf hr hs h =
    absurd (edit_spaces e.text_range e.text (flat_map printed_edit es ++ r) s hs (sym h ∙ append_assoc (printed_edit e) (flat_map printed_edit es) r))
edits_cut (e ∷ es) (f ∷ fs) r s he hf hr hs h =
    let k = edit_cut e f (flat_map printed_edit es ++ r) (flat_map printed_edit fs ++ s) he.0 hf.0
    (sym (append_assoc (printed_edit e) (flat_map printed_edit es) r) ∙ h ∙ append_assoc (printed_edit f) (flat_map printed_edit fs) s) in
    let m = edits_cut es fs r s he.1 hf.1 hr hs k.1 in
    let k0 : e ≡ f = k.0 in
    let m0 : es ≡ fs = m.0 in
    (cc, m.1)

-- ---- fixes

fix_flat : (title : List ℕ) (es : List Edit) (r : List ℕ)
    → (labelled (codes "  fix: ") (Some title) ++ flat_map printed_edit es) ++ r ≡ (codes "  fix: " ++ escaped title ++ codes "\n") ++ (flat_map printed_edit es ++ r)
fix_flat title es r = append_assoc (labelled (codes "  fix: ") (Some title)) (flat_map printed_edit es) r

fix_spaces : (f : FixValue) (r k : List ℕ) → IsOther k → k ≡ printed_fix (Some f) ++ r → ⊥
fix_spaces f r [] h e = absurd (cc)
fix_spaces f r (c ∷ cs) h e = h (cc)

pub fix_cut : (x y : Option FixValue) (r s : List ℕ) → FixFits x → FixFits y → IsOther r → IsOther s → printed_fix x ++ r ≡ printed_fix y ++ s → (x ≡ y) × (r ≡ s)
fix_cut None None r s hx hy hr hs e = (refl, e)
fix_cut None (Some f) r s hx hy hr hs e = absurd (fix_spaces f s r hr e)
fix_cut (Some f) None r s hx hy hr hs e = absurd (fix_spaces f r s hs (sym e))
fix_cut (Some f) (Some g) r s hx hy hr hs e =
    let k = line_cut (codes "  fix: ") f.title g.title (flat_map printed_edit f.edits ++ r) (flat_map printed_edit g.edits ++ s)
    (sym (fix_flat f.title f.edits r) ∙ e ∙ fix_flat g.title g.edits s) in
    let m = edits_cut f.edits g.edits r s hx hy hr hs k.1 in
    let p : List ℕ → Option FixValue = λ t. Some (record { title = t; edits = f.edits }) in
    let q : List Edit → Option FixValue = λ es. Some (record { title = g.title; edits = es }) in
    (ap p k.0 ∙ ap q m.0, m.1)
