-- What an index knows is what the ignore comments cover.
use Rattle.std.proofs.Common.{◌≡◌, ℕ, zero, suc, ◌+◌, ◌-◌, ◌<◌, Bool, true, false, List, [], ◌∷◌, ◌++◌, length, get_or, take, refl, sym, ◌∙◌, ap, subst, arith}
use Rattle.std.proofs.Math.Bool.{or-true}
use Rattle.std.proofs.lemmas.Bool.Decides.{nat_tests}
use Rattle.std.proofs.lemmas.List.{take_more}
use Rattle.std.proofs.lemmas.List.Folds.{list_any-append}
use Rattle.std.specs.List.{list_any}
use Rattle.std.specs.Prelude.{◌==◌, ◌&&◌, ◌||◌, not, nat_lt}
use Rattle.sql_tree.specs.sql_token.Token.{Text}
use Rattle.sql_tree.specs.text_pos.Line.{line_feeds}
use Rattle.lint_base.specs.declared.rule.Rule.{Rule}
use Rattle.lint_base.specs.RuleSets.{Rules, has}
use Rattle.lint_ignore.specs.declared.ignore.Ignore.{Ignore}
use Rattle.lint_ignore.specs.declared.ignore.IgnoreKind.{IgnoreKind}
use Rattle.lint_ignore.specs.declared.ignore.IgnoreKind.TheVariants.{File, Line}
use Rattle.lint_ignore.specs.declared.index.IgnoreIndex.{IgnoreIndex}
use Rattle.lint_ignore.specs.Covered.{line_of_ignore, covers_by, covers}
use Rattle.lint_ignore.specs.Index.{AddsIgnore, IsIndexOf, is_file, is_bare_file, file_names, names, line_names, knows}
use Rattle.lint_ignore.specs.Lines.{at_line, is_among}

-- ---- one more ignore comment

or-false : (b : Bool) → (b || false) ≡ b
or-false true = refl
or-false false = refl

any_more : (p : Ignore → Bool) (gs : List Ignore) (g : Ignore) → list_any p (gs ++ g ∷ []) ≡ (list_any p gs || p g)
any_more p gs g = list_any-append p gs (g ∷ []) ∙ ap (λ (b : Bool). list_any p gs || b) (or-false (p g))

grow : (p : Ignore → Bool) (gs : List Ignore) (g : Ignore) (old new : Bool) → old ≡ list_any p gs → new ≡ (old || p g) → new ≡ list_any p (gs ++ g ∷ [])
grow p gs g old new e more = more ∙ (ap (λ (b : Bool). b || p g) e ∙ sym (any_more p gs g))

index_more : (old new : IgnoreIndex) (text : Text) (gs : List Ignore) (g : Ignore) → IsIndexOf old text gs → AddsIgnore old new g → IsIndexOf new text (gs ++ g ∷ [])
index_more old new text gs g h adds = record {
  lines = adds.lines ∙ h.lines;
  bare = grow is_bare_file gs g old.covers_all new.covers_all h.bare adds.bare;
  file = λ rule. grow (file_names rule) gs g (has old.file rule) (has new.file rule) (h.file rule) (adds.file rule);
  by_line =
      λ line rule. grow (line_names text line rule) gs g (is_among (at_line old.by_line line) rule) (is_among (at_line new.by_line line) rule) (h.by_line line rule) (adds.by_line text h.lines line rule);
}

pub index_goes_on : (old new : IgnoreIndex) (text : Text) (gs : List Ignore) (i : ℕ) (g : Ignore) → IsIndexOf old text (take i gs) → i < length gs → g ≡ get_or gs i g → AddsIgnore old new g → IsIndexOf new text (take (i + 1) gs)
index_goes_on old new text gs i g h lt is adds =
    let P : List Ignore → Type 0 = λ xs. IsIndexOf new text xs in
    let Q : Ignore → Type 0 = λ x. AddsIgnore old new x in
    subst P (sym (take_more gs i g lt)) (index_more old new text (take i gs) (get_or gs i g) h (subst Q is adds))

and_turned : (a b : Bool) → (a && b) ≡ (b && a)
and_turned true true = refl
and_turned true false = refl
and_turned false true = refl
and_turned false false = refl

-- a line ignore
pub line_added : (old new : IgnoreIndex) (g : Ignore) (l : ℕ) (rules : Rules) → is_file g.kind ≡ false → new.lines ≡ old.lines → new.covers_all ≡ old.covers_all → new.file ≡ old.file
    → ((text : Text) → old.lines ≡ line_feeds text → l ≡ line_of_ignore text g)
    → ((rule : Rule) → has rules rule ≡ names g rule)
    → ((line : ℕ) (rule : Rule) → is_among (at_line new.by_line line) rule ≡ (is_among (at_line old.by_line line) rule || (l == line && has rules rule)))
    → AddsIgnore old new g
line_added old new g l rules kind lines all file place named added = record {
  lines = lines;
  bare = all ∙ (sym (or-false old.covers_all) ∙ ap (λ (b : Bool). old.covers_all || (b && g.ignore_all)) (sym kind));
  file = λ rule. ap (λ (s : Rules). has s rule) file ∙ (sym (or-false (has old.file rule)) ∙ ap (λ (b : Bool). has old.file rule || (b && has g.violation_names rule)) (sym kind));
  by_line =
      λ text h line rule. added line rule
      ∙ (ap (λ (b : Bool). is_among (at_line old.by_line line) rule || b) (and_turned (l == line) (has rules rule))
      ∙ (λ i. is_among (at_line old.by_line line) rule || (not (sym kind i) && named rule i && place text h i == line)));
}

-- ---- what it knows

regroup : (b B f F n N z m M : Bool) → ((b || B) || (f || F) || (n || N) || (z && (m || M))) ≡ ((b || f || n || (z && m)) || (B || F || N || (z && M)))
regroup true B f F n N z m M = refl
regroup false true f F n N z m M = sym (or-true (false || f || n || (z && m)))
regroup false false true F n N z m M = refl
regroup false false false true n N z m M = sym (or-true (false || false || n || (z && m)))
regroup false false false false true N z m M = refl
regroup false false false false false true z m M = sym (or-true (false || false || false || (z && m)))
regroup false false false false false false false m M = refl
regroup false false false false false false true true M = refl
regroup false false false false false false true false M = refl

and-false : (b : Bool) → (b && false) ≡ false
and-false true = refl
and-false false = refl

by_file : (all h z : Bool) → (all || h) ≡ (all || h || false || (z && false))
by_file true h z = refl
by_file false true z = refl
by_file false false z = sym (and-false z)

by_line : (p : Bool) (l line : ℕ) → (p && (line == l || line == l + 1)) ≡ (false || false || (p && l == line) || (nat_lt 0 line && (p && l == line - 1)))
by_line false l line = sym (and-false (nat_lt 0 line))
by_line true l line = on_line l line
  where
    on_line : (l line : ℕ) → (line == l || line == l + 1) ≡ (l == line || (nat_lt 0 line && l == line - 1))
    on_line l zero = grind (arith, nat_tests)
    on_line l (suc line) = grind (arith, nat_tests)

one : (text : Text) (line : ℕ) (rule : Rule) (g : Ignore) → covers text line rule g
    ≡ (is_bare_file g || file_names rule g || line_names text line rule g || (nat_lt 0 line && line_names text (line - 1) rule g))
one text line rule g = by_kind g.kind
  where
    by_kind : (k : IgnoreKind) → covers_by k text g line rule
        ≡ ((is_file k && g.ignore_all) || (is_file k && has g.violation_names rule) || (not (is_file k) && names g rule && line_of_ignore text g == line)
        || (nat_lt 0 line && (not (is_file k) && names g rule && line_of_ignore text g == line - 1)))
    by_kind File = by_file g.ignore_all (has g.violation_names rule) (nat_lt 0 line)
    by_kind Line = by_line (names g rule) (line_of_ignore text g) line

all : (text : Text) (line : ℕ) (rule : Rule) (gs : List Ignore)
    → (list_any is_bare_file gs || list_any (file_names rule) gs || list_any (line_names text line rule) gs || (nat_lt 0 line && list_any (line_names text (line - 1) rule) gs)) ≡ list_any (covers text line rule) gs
all text line rule [] = and-false (nat_lt 0 line)
all text line rule (g ∷ gs) =
    regroup (is_bare_file g) (list_any is_bare_file gs) (file_names rule g) (list_any (file_names rule) gs) (line_names text line rule g) (list_any (line_names text line rule) gs) (nat_lt 0 line) (line_names text (line - 1) rule g) (list_any (line_names text (line - 1) rule) gs)
    ∙ (λ i. sym (one text line rule g) i || all text line rule gs i)

pub knows_covered : (index : IgnoreIndex) (text : Text) (gs : List Ignore) (line : ℕ) (rule : Rule) → IsIndexOf index text gs → knows index line rule ≡ list_any (covers text line rule) gs
knows_covered index text gs line rule h =
    (λ i. h.bare i || h.file rule i || h.by_line line rule i || (nat_lt 0 line && h.by_line (line - 1) rule i)) ∙ all text line rule gs
