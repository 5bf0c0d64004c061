-- The names in a text's ignore comments are in the text, between its characters.
use Rattle.std.proofs.Common.{◌≡◌, ℕ, suc, ◌+◌, ◌-◌, ◌<◌, ◌≤◌, inl, inr, Bool, true, false, cond, List, [], ◌∷◌, ◌++◌, length, get_or, take, drop, length-append, length-drop, add-zero, append_assoc, sym, refl, ap, ◌∙◌, subst, lit<, arith, Option, Some, None, IfSome}
use Rattle.std.proofs.lemmas.Bool.{cases_Bool, cases_lt}
use Rattle.std.proofs.lemmas.Bool.Decides.{nat_tests}
use Rattle.std.proofs.lemmas.List.{append-nil, take-append-drop, length-take-le, get_or-append-add, get_or-take, get_or-drop, drop_at, take_at, get_or_at, drop-drop, take_all}
use Rattle.std.proofs.lemmas.List.Elements.{All-append, All-cons, All-head, All-tail, All-nil, All-map, All-filter, All-weaker, All-from_get_or}
use Rattle.std.proofs.lemmas.Str.{IsUtf8-append, IsUtf8-nil, IsUtf8-take, IsUtf8-drop, IsUtf8-between, IsCharBoundary-start, IsCharBoundary-end, IsCharBoundary-before_ascii, IsCharBoundary-after_ascii, encodes-append, encodes-chars, scalars-chars}
use Rattle.std.specs.Cmp.Lexicographic.{same_text}
use Rattle.std.specs.Char.{is_whitespace}
use Rattle.std.specs.List.{cons_option, filter_map, flat_map, starts_with}
use Rattle.std.specs.Option.{option_and_then}
use Rattle.std.specs.Prelude.{◌==◌, ◌&&◌, not, nat_eq, slice_index, All, filter, if◌then◌else◌}
use Rattle.std.specs.Str.{IsUtf8, IsCharBoundary, chars, trim_start, trim_end, encode_utf8_all, all_scalars, skip_leading_whitespace, drop_trailing_whitespace}
use Rattle.sql_tree.specs.sql_token.declared.token.Tok.{Tok}
use Rattle.sql_tree.specs.sql_token.declared.token.TokKind.{TokKind}
use Rattle.sql_tree.specs.sql_token.declared.token.TokKind.TheVariants.{LineComment, BlockComment}
use Rattle.sql_tree.specs.sql_token.Token.{Text, text_of}
use Rattle.sql_tree.proofs.of_sql_token.Boundaries.{token_bounds, token_between}
use Rattle.sql_tree.specs.Statement.{Tree, IsTree, no_token}
use Rattle.sql_tree.specs.Range.{token_at}
use Rattle.lint_base.specs.declared.rule.Rule.{Rule}
use Rattle.lint_base.specs.declared.violation.Violation.{Violation}
use Rattle.lint_base.specs.RuleNames.{rule_named}
use Rattle.lint_ignore.specs.declared.ignore.Ignore.{Ignore}
use Rattle.lint_ignore.specs.declared.ignore.IgnoreKind.{IgnoreKind}
use Rattle.lint_ignore.specs.declared.ignore.IgnoreKind.TheVariants.{File, Line}
use Rattle.lint_ignore.specs.declared.ignore.IgnorePiece.{IgnorePiece}
use Rattle.lint_ignore.specs.Part.{Part, range_of, part_after, part_before, trimmed, trimmed_end, before_dashes, part_before_dashes, with_prefix, parts_from, comma_parts}
use Rattle.lint_ignore.specs.Comment.{CanCutDelimiters, body_of, comment_body, file_text, ignore_in, ignore_in_token, inside, line_text, token_part}
use Rattle.lint_ignore.specs.Names.{known_by, known_name, names_in, unknown_by, unknown_name}
use Rattle.lint_ignore.specs.Found.{all_said, found_in, ignore_comments}
use Rattle.lint_ignore.specs.Places.{IsPlace, NamesLie}
use Rattle.lint_ignore.proofs.Delimiters.{delimiters_of}
use Rattle.lint_ignore.proofs.Parts.{step_no, step_yes, step_comma}

-- ---- parts of parts

-- the second part is in the first, between characters
pub record IsPartOf (whole p : Part) : Type 0 where
  pub front : List ℕ
  pub back : List ℕ
  pub is : whole.bytes ≡ front ++ (p.bytes ++ back)
  pub place : p.at ≡ whole.at + length front
  pub front_utf8 : IsUtf8 front
  pub utf8 : IsUtf8 p.bytes
  pub back_utf8 : IsUtf8 back

part_itself : (p : Part) → IsUtf8 p.bytes → IsPartOf p p
part_itself p utf8 = record {
  front = [];
  back = [];
  is = sym (append-nil p.bytes);
  place = sym (add-zero p.at);
  front_utf8 = IsUtf8-nil;
  utf8 = utf8;
  back_utf8 = IsUtf8-nil;
}

part_of_part : (a b c : Part) → IsPartOf a b → IsPartOf b c → IsPartOf a c
part_of_part a b c outer inner =
    let regroup : outer.front ++ ((inner.front ++ (c.bytes ++ inner.back)) ++ outer.back) ≡ (outer.front ++ inner.front) ++ (c.bytes ++ (inner.back ++ outer.back)) = simp append_assoc in
    record {
      front = outer.front ++ inner.front;
      back = inner.back ++ outer.back;
      is = outer.is ∙ (ap (λ (xs : List ℕ). outer.front ++ (xs ++ outer.back)) inner.is ∙ regroup);
      place = omega (arith, inner.place, outer.place, length-append outer.front inner.front);
      front_utf8 = IsUtf8-append outer.front inner.front outer.front_utf8 inner.front_utf8;
      utf8 = inner.utf8;
      back_utf8 = IsUtf8-append inner.back outer.back inner.back_utf8 outer.back_utf8;
    }

part_in_prefix : (p : Part) (n : ℕ) → IsUtf8 p.bytes → IsCharBoundary p.bytes n → IsPartOf p (part_before n p)
part_in_prefix p n utf8 cut = record {
  front = [];
  back = drop n p.bytes;
  is = sym (take-append-drop n p.bytes);
  place = sym (add-zero p.at);
  front_utf8 = IsUtf8-nil;
  utf8 = IsUtf8-take p.bytes n utf8 cut;
  back_utf8 = IsUtf8-drop p.bytes n utf8 cut;
}

prefix_dropped : (p : Part) (n : ℕ) → IsUtf8 p.bytes → IsCharBoundary p.bytes n → IsPartOf p (part_after n p)
prefix_dropped p n utf8 cut = record {
  front = take n p.bytes;
  back = [];
  is = sym (take-append-drop n p.bytes) ∙ ap (λ (xs : List ℕ). take n p.bytes ++ xs) (sym (append-nil (drop n p.bytes)));
  place = ap (λ (k : ℕ). p.at + k) (sym (length-take-le n p.bytes cut.0));
  front_utf8 = IsUtf8-take p.bytes n utf8 cut;
  utf8 = IsUtf8-drop p.bytes n utf8 cut;
  back_utf8 = IsUtf8-nil;
}

-- ---- white space

both : (a b : Bool) → (a && b) ≡ true → (a ≡ true) × (b ≡ true)
both true b h = (refl, h)
both false b h = absurd (cc)

scalars_prefix : (cs ds : List ℕ) → all_scalars (cs ++ ds) ≡ true → all_scalars cs ≡ true
scalars_prefix [] ds h = refl
scalars_prefix (c ∷ cs) ds h =
    let parts = both _ (all_scalars (cs ++ ds)) h in ap (λ (b : Bool). b && all_scalars cs) parts.0 ∙ scalars_prefix cs ds parts.1

scalars_back : (cs ds : List ℕ) → all_scalars (cs ++ ds) ≡ true → all_scalars ds ≡ true
scalars_back [] ds h = h
scalars_back (c ∷ cs) ds h = let parts = both _ (all_scalars (cs ++ ds)) h in scalars_back cs ds parts.1

skipped : (cs : List ℕ) → (front : List ℕ) × (cs ≡ front ++ skip_leading_whitespace cs)
skipped [] = ([], refl)
skipped (c ∷ cs) =
    elim (is_whitespace c) as (λ b. (front : List ℕ) × (c ∷ cs ≡ front ++ cond b (skip_leading_whitespace cs) (c ∷ cs))) [
      | true ↦ (c ∷ (skipped cs).0, ap (λ (xs : List ℕ). c ∷ xs) (skipped cs).1)
      | false ↦ ([], refl)
    ]

dropped : (cs : List ℕ) → (back : List ℕ) × (cs ≡ drop_trailing_whitespace cs ++ back)
dropped [] = ([], refl)
dropped (c ∷ cs) =
    elim (is_whitespace c && length (drop_trailing_whitespace cs) == 0) as (λ b. (back : List ℕ) × (c ∷ cs ≡ cond b [] (c ∷ drop_trailing_whitespace cs) ++ back)) [
      | true ↦ (c ∷ cs, refl)
      | false ↦ ((dropped cs).0, ap (λ (xs : List ℕ). c ∷ xs) (dropped cs).1)
    ]

-- the part without white space at its start
abbrev trimmed_start : Part → Part
trimmed_start p = record { at = p.at + (length p.bytes - length (trim_start p.bytes)); bytes = trim_start p.bytes }

part_trimmed_start : (p : Part) → IsUtf8 p.bytes → IsPartOf p (trimmed_start p)
unfolding trim_start
part_trimmed_start p utf8 =
    let cs : List ℕ = chars p.bytes in
    let all : all_scalars cs ≡ true = scalars-chars p.bytes utf8 in
    let (front, split) = skipped cs in
    let kept : List ℕ = skip_leading_whitespace cs in
    let scalars : all_scalars (front ++ kept) ≡ true = ap all_scalars (sym split) ∙ all in
    let bytes : p.bytes ≡ encode_utf8_all front ++ encode_utf8_all kept = sym (encodes-chars p.bytes utf8) ∙ (ap encode_utf8_all split ∙ encodes-append front kept) in
    let size : length p.bytes ≡ length (encode_utf8_all front) + length (encode_utf8_all kept) = ap length bytes ∙ length-append (encode_utf8_all front) (encode_utf8_all kept) in
    record {
      front = encode_utf8_all front;
      back = [];
      is = bytes ∙ ap (λ (xs : List ℕ). encode_utf8_all front ++ xs) (sym (append-nil (encode_utf8_all kept)));
      place = omega (arith, size);
      front_utf8 = (front, (scalars_prefix front kept scalars, refl));
      utf8 = (kept, (scalars_back front kept scalars, refl));
      back_utf8 = IsUtf8-nil;
    }

part_trimmed_end : (p : Part) → IsUtf8 p.bytes → IsPartOf p (trimmed_end p)
unfolding trim_end
part_trimmed_end p utf8 =
    let cs : List ℕ = chars p.bytes in
    let all : all_scalars cs ≡ true = scalars-chars p.bytes utf8 in
    let (back, split) = dropped cs in
    let kept : List ℕ = drop_trailing_whitespace cs in
    let scalars : all_scalars (kept ++ back) ≡ true = ap all_scalars (sym split) ∙ all in
    record {
      front = [];
      back = encode_utf8_all back;
      is = sym (encodes-chars p.bytes utf8) ∙ (ap encode_utf8_all split ∙ encodes-append kept back);
      place = sym (add-zero p.at);
      front_utf8 = IsUtf8-nil;
      utf8 = (kept, (scalars_prefix kept back scalars, refl));
      back_utf8 = (back, (scalars_back kept back scalars, refl));
    }

part_trimmed : (p : Part) → IsUtf8 p.bytes → IsPartOf p (trimmed p)
part_trimmed p utf8 =
    let first = part_trimmed_start p utf8 in part_of_part p (trimmed_start p) (trimmed p) first (part_trimmed_end (trimmed_start p) first.utf8)

-- ---- dashes

dashes_cut : (s : List ℕ) → (n : ℕ) × (before_dashes s ≡ take n s) × (n ≤ length s) × (n < length s → get_or s n 0 ≡ 45)
dashes_cut [] = (0, refl, omega arith, λ h. absurd (omega arith))
dashes_cut (b ∷ bs) =
    elim (cases_Bool (b == 45 && slice_index bs 0 == 45)) [
      | inl e ↦ (0, step_yes b bs e, omega arith, λ _. dash b (slice_index bs 0) e)
      | inr e ↦ let (n, is, within, at) = dashes_cut bs in (suc n, step_no b bs e ∙ ap (λ (xs : List ℕ). b ∷ xs) is, omega arith, λ h. at (omega arith))
    ]
  where
    dash : (b c : ℕ) → (b == 45 && c == 45) ≡ true → b ≡ 45
    dash b c e = grind (arith, nat_tests)

part_without_dashes : (p : Part) → IsUtf8 p.bytes → IsPartOf p (part_before_dashes p)
part_without_dashes p utf8 =
    let (n, is, within, at) = dashes_cut p.bytes in
    let cut : IsCharBoundary p.bytes n =
    elim (cases_lt n (length p.bytes)) [
      | inl lt ↦ IsCharBoundary-before_ascii p.bytes n lt (omega (arith, at lt))
      | inr ge ↦ let same : length p.bytes ≡ n = omega arith in subst (λ (k : ℕ). IsCharBoundary p.bytes k) same (IsCharBoundary-end p.bytes)
    ]
    in
    let P : List ℕ → Type 0 = λ bytes. IsPartOf p (record { at = p.at; bytes = bytes }) in
    subst P (sym is) (part_in_prefix p n utf8 cut)

-- ---- the text that a body begins with

prefix_cut : (s n : List ℕ) (k : ℕ) → IsUtf8 s → starts_with nat_eq s n ≡ true → length n ≡ k + 1 → get_or n k 0 < 128 → IsCharBoundary s (length n)
prefix_cut s n k utf8 begins size low =
    let same : take (length n) s ≡ n = sym (same_text n (take (length n) s) (sym begins)) in
    let long : length (take (length n) s) ≡ length n = ap length same in
    let within : k < length s = elim (cases_lt k (length s)) [ inl l ↦ l | inr ge ↦ absurd (let short : length (take (length n) s) ≡ length s = ap length (take_all (length n) s (omega arith)) in omega arith) ] in
    let at : get_or s k 0 ≡ get_or n k 0 = sym (get_or-take (length n) s k 0 (omega arith)) ∙ ap (λ (xs : List ℕ). get_or xs k 0) same in
    let P : ℕ → Type 0 = λ i. IsCharBoundary s i in
    subst P (sym size) (IsCharBoundary-after_ascii s k utf8 within (omega arith))

-- ---- pieces between commas

-- The first of some pieces, which begins at `at`, goes on with what is between `start` and there, and each of them
-- is in the whole.
abbrev Stand : Part → ℕ → ℕ → List ℕ → List Part → Type 0
Stand whole start at u [] = ⊥
Stand whole start at u (p ∷ ps) = (p.at ≡ at) × IsPartOf whole (record { at = start; bytes = u ++ p.bytes }) × All (IsPartOf whole) ps

longer : (whole : Part) (start at b : ℕ) (u : List ℕ) (ps : List Part) → Stand whole start (at + 1) (u ++ b ∷ []) ps → Stand whole start at u (with_prefix at b ps)
longer whole start at b u [] h = h
longer whole start at b u (p ∷ ps) h =
    let P : List ℕ → Type 0 = λ bytes. IsPartOf whole (record { at = start; bytes = bytes }) in
    (refl, subst P (append_assoc u (b ∷ []) p.bytes) h.1, h.2)

after_comma : (whole : Part) (at : ℕ) (ps : List Part) → Stand whole at at [] ps → All (IsPartOf whole) ps
after_comma whole at [] h = absurd h
after_comma whole at (p ∷ ps) h =
    let P : ℕ → Type 0 = λ place. IsPartOf whole (record { at = place; bytes = p.bytes }) in
    All-cons (IsPartOf whole) p ps (subst P (sym h.0) h.1) h.2

comma_utf8 : IsUtf8 (44 ∷ [])
unfolding lib.Utf8.encode
comma_utf8 = (44 ∷ [], (refl, refl))

is_comma : (b : ℕ) → (b == 44) ≡ true → b ≡ 44
is_comma b e = grind (arith, nat_tests)

-- a text is cut before and after a comma
around_comma : (u bs : List ℕ) → IsUtf8 (u ++ 44 ∷ bs) → IsUtf8 u × IsUtf8 (44 ∷ bs) × IsUtf8 bs
around_comma u bs utf8 =
    let at : get_or (u ++ 44 ∷ bs) (length u) 0 ≡ 44 = get_or_at u 44 bs 0 (length u) refl in
    let cut : IsCharBoundary (u ++ 44 ∷ bs) (length u) = IsCharBoundary-before_ascii (u ++ 44 ∷ bs) (length u) (omega (arith, length-append u (44 ∷ bs))) (omega arith) in
    let back : IsUtf8 (44 ∷ bs) = subst IsUtf8 (drop_at u (44 ∷ bs) (length u) refl) (IsUtf8-drop (u ++ 44 ∷ bs) (length u) utf8 cut) in
    (subst IsUtf8 (take_at u (44 ∷ bs) (length u) refl) (IsUtf8-take (u ++ 44 ∷ bs) (length u) utf8 cut), back, IsUtf8-drop (44 ∷ bs) 1 back (IsCharBoundary-after_ascii (44 ∷ bs) 0 back (omega arith) (omega arith)))

-- the parts before a comma and after it
abbrev up_to_comma : List ℕ → List ℕ → List ℕ
up_to_comma front u = front ++ (u ++ 44 ∷ [])

at_comma : (whole : Part) (front u bs : List ℕ) (at : ℕ) → whole.bytes ≡ front ++ (u ++ 44 ∷ bs) → at ≡ whole.at + length front + length u → IsUtf8 front → IsUtf8 (u ++ 44 ∷ bs)
    → Stand whole (whole.at + length (up_to_comma front u)) (at + 1) [] (parts_from (at + 1) bs) → Stand whole (whole.at + length front) at u (parts_from at (44 ∷ bs))
at_comma whole front u bs at is place before utf8 rest =
    let parts = around_comma u bs utf8 in
    let next : whole.at + length (up_to_comma front u) ≡ at + 1 = omega (arith, length-append front (u ++ 44 ∷ []), length-append u (44 ∷ [])) in
    let P : ℕ → Type 0 = λ n. Stand whole n (at + 1) [] (parts_from (at + 1) bs) in
    let none : u ≡ u ++ [] = sym (append-nil u) in (
      refl,
      record {
        front = front;
        back = 44 ∷ bs;
        is = is ∙ ap (λ (xs : List ℕ). front ++ (xs ++ 44 ∷ bs)) none;
        place = refl;
        front_utf8 = before;
        utf8 = subst IsUtf8 none parts.0;
        back_utf8 = parts.1;
      },
      after_comma whole (at + 1) (parts_from (at + 1) bs) (subst P next rest),
    )

pieces_stand : (whole : Part) (front u bs : List ℕ) (at : ℕ) → whole.bytes ≡ front ++ (u ++ bs) → at ≡ whole.at + length front + length u → IsUtf8 front → IsUtf8 (u ++ bs) → Stand whole (whole.at + length front) at u (parts_from at bs)
pieces_stand whole front u [] at is place before utf8 = (
  refl,
  record {
    front = front;
    back = [];
    is = is ∙ ap (λ (xs : List ℕ). front ++ xs) (sym (append-nil (u ++ [])));
    place = refl;
    front_utf8 = before;
    utf8 = utf8;
    back_utf8 = IsUtf8-nil;
  },
  All-nil (IsPartOf whole),
)
pieces_stand whole front u (b ∷ bs) at is place before utf8 =
    elim (cases_Bool (b == 44)) [
      | inl e ↦
          let comma : b ≡ 44 = is_comma b e in
          let P : ℕ → Type 0 = λ x. Stand whole (whole.at + length front) at u (parts_from at (x ∷ bs)) in
          let here : whole.bytes ≡ front ++ (u ++ 44 ∷ bs) = is ∙ ap (λ (x : ℕ). front ++ (u ++ x ∷ bs)) comma in
          let good : IsUtf8 (u ++ 44 ∷ bs) = subst (λ (x : ℕ). IsUtf8 (u ++ x ∷ bs)) comma utf8 in
          let parts = around_comma u bs good in
          let moved : front ++ (u ++ 44 ∷ bs) ≡ up_to_comma front u ++ bs = simp append_assoc in
          let later : at + 1 ≡ whole.at + length (up_to_comma front u) + 0 = omega (arith, length-append front (u ++ 44 ∷ []), length-append u (44 ∷ [])) in
          let done : IsUtf8 (up_to_comma front u) = IsUtf8-append front (u ++ 44 ∷ []) before (IsUtf8-append u (44 ∷ []) parts.0 comma_utf8) in
          subst P (sym comma) (at_comma whole front u bs at here place before good (pieces_stand whole (up_to_comma front u) [] bs (at + 1) (here ∙ moved) later done parts.2))
      | inr e ↦
          let P : List Part → Type 0 = λ ps. Stand whole (whole.at + length front) at u ps in
          let moved : u ++ b ∷ bs ≡ (u ++ b ∷ []) ++ bs = sym (append_assoc u (b ∷ []) bs) in
          let later : at + 1 ≡ whole.at + length front + length (u ++ b ∷ []) = omega (arith, length-append u (b ∷ [])) in
          subst P (sym (step_comma at b bs e))
          (longer whole (whole.at + length front) at b u (parts_from (at + 1) bs)
          (pieces_stand whole front (u ++ b ∷ []) bs (at + 1) (is ∙ ap (λ (xs : List ℕ). front ++ xs) moved) later before (subst IsUtf8 moved utf8)))
    ]

-- the pieces of a part
parts_between_commas : (p : Part) → IsUtf8 p.bytes → All (IsPartOf p) (comma_parts p)
parts_between_commas p utf8 =
    let place : p.at ≡ p.at + 0 + 0 = omega arith in
    let P : ℕ → Type 0 = λ n. Stand p n p.at [] (comma_parts p) in
    after_comma p p.at (comma_parts p) (subst P (add-zero p.at) (pieces_stand p [] [] p.bytes p.at refl place IsUtf8-nil utf8))

-- the names of a part
parts_named : (whole p : Part) → IsPartOf whole p → All (IsPartOf whole) (names_in p)
parts_named whole p h =
    let trim_each : (x : Part) → IsPartOf p x → IsPartOf whole (trimmed x) = λ x inner. part_of_part whole x (trimmed x) (part_of_part whole p x h inner) (part_trimmed x inner.utf8) in
    let kept : All (IsPartOf p) (filter (λ x. not (length x.bytes == 0)) (comma_parts p)) = All-filter (λ x. not (length x.bytes == 0)) (IsPartOf p) (comma_parts p) (parts_between_commas p h.utf8) in
    All-map (IsPartOf whole) trimmed (filter (λ x. not (length x.bytes == 0)) (comma_parts p)) (All-weaker (IsPartOf p) (λ x. IsPartOf whole (trimmed x)) trim_each _ kept)

-- ---- comments

-- all of a text
abbrev pub all_of : Text → Part
all_of t = record { at = 0; bytes = t }

token_stands : (tree : Tree) (i : ℕ) → IsTree tree → IsUtf8 tree.text → i < length tree.toks → IsPartOf (all_of tree.text) (token_part tree.text (token_at tree.toks i))
token_stands tree i is utf8 within =
    let t : Text = tree.text in
    let tok : Tok = token_at tree.toks i in
    let bounds = token_bounds t tree.toks i no_token is.lexed within in
    let between = token_between t tree.toks i no_token utf8 is.lexed within in
    let forward : tok.start ≤ tok.end = omega (arith, bounds.0) in
    let place : tok.start + (tok.end - tok.start) ≡ tok.end = omega arith in
    let back : drop tok.end t ≡ drop (tok.end - tok.start) (drop tok.start t) = ap (λ (n : ℕ). drop n t) (sym place) ∙ sym (drop-drop (tok.end - tok.start) tok.start t) in
    record {
      front = take tok.start t;
      back = drop tok.end t;
      is =
          sym (take-append-drop tok.start t)
          ∙ ap (λ (xs : List ℕ). take tok.start t ++ xs) (sym (take-append-drop (tok.end - tok.start) (drop tok.start t)) ∙ ap (λ (xs : List ℕ). text_of t tok ++ xs) (sym back));
      place = omega (arith, length-take-le tok.start t between.0.0);
      front_utf8 = IsUtf8-take t tok.start utf8 between.0;
      utf8 = IsUtf8-between t tok.start tok.end utf8 forward between.0 between.1;
      back_utf8 = IsUtf8-drop t tok.end utf8 between.1;
    }

after_mark : (z : List ℕ) (n : ℕ) → IsCharBoundary z (2 + n) → IsCharBoundary (drop 2 z) n
after_mark z n cut =
    let size = length-drop 2 z in
    (omega (arith, cut.0, size), λ lt high. let at = get_or-drop 2 z n 0 in let low = cut.1 (omega arith) in omega (arith, low (omega arith)))

stands_inside : (whole p : Part) (k : TokKind) → IsPartOf whole p → CanCutDelimiters k p.bytes → IfSome (inside k p) (IsPartOf whole)
stands_inside whole p LineComment h cut = part_of_part whole p (part_after 2 p) h (prefix_dropped p 2 h.utf8 cut)
stands_inside whole p BlockComment h cut =
    let (long, first, last) = cut in
    let rest = prefix_dropped p 2 h.utf8 first in
    let place : length p.bytes - 2 ≡ 2 + (length p.bytes - 4) = omega arith in
    let at : IsCharBoundary p.bytes (2 + (length p.bytes - 4)) = subst (λ (n : ℕ). IsCharBoundary p.bytes n) place last in
    part_of_part whole (part_after 2 p) (part_before (length p.bytes - 4) (part_after 2 p)) (part_of_part whole p (part_after 2 p) h rest) (part_in_prefix (part_after 2 p) (length p.bytes - 4) rest.utf8 (after_mark p.bytes (length p.bytes - 4) at))
stands_inside whole p _ h cut = tt

stands_body : (whole : Part) (o : Option Part) → IfSome o (IsPartOf whole) → IfSome (option_and_then (λ p. Some (body_of p)) o) (IsPartOf whole)
stands_body whole None h = tt
stands_body whole (Some p) h =
    let first = part_trimmed p h.utf8 in
    let second = part_without_dashes (trimmed p) first.utf8 in
    let third = part_trimmed_end (part_before_dashes (trimmed p)) second.utf8 in
    part_of_part whole p (body_of p) h (part_of_part p (trimmed p) (body_of p) first (part_of_part (trimmed p) (part_before_dashes (trimmed p)) (body_of p) second third))

abbrev LiesAt : Part → Part × IgnoreKind → Type 0
LiesAt whole c = IsPartOf whole c.0

begun : (whole body : Part) → IsPartOf whole body → IfSome (ignore_in body) (LiesAt whole)
begun whole body h = by_file (starts_with nat_eq body.bytes file_text) refl
  where
    by_line : (b : Bool) → starts_with nat_eq body.bytes line_text ≡ b → IfSome (if b then Some (part_after (length line_text) body, Line) else None) (LiesAt whole)
    by_line true e = part_of_part whole body (part_after (length line_text) body) h (prefix_dropped body (length line_text) h.utf8 (prefix_cut body.bytes line_text 12 h.utf8 e refl (lit< tt)))
    by_line false e = tt

    by_file : (b : Bool) → starts_with nat_eq body.bytes file_text ≡ b
        → IfSome (if b then Some (part_after (length file_text) body, File) else (if starts_with nat_eq body.bytes line_text then Some (part_after (length line_text) body, Line) else None)) (LiesAt whole)
    by_file true e = part_of_part whole body (part_after (length file_text) body) h (prefix_dropped body (length file_text) h.utf8 (prefix_cut body.bytes file_text 17 h.utf8 e refl (lit< tt)))
    by_file false e = by_line (starts_with nat_eq body.bytes line_text) refl

stands_ignored : (whole : Part) (o : Option Part) → IfSome o (IsPartOf whole) → IfSome (option_and_then ignore_in o) (LiesAt whole)
stands_ignored whole None h = tt
stands_ignored whole (Some body) h = begun whole body h

-- the body of a comment is in its text
pub body_stands : (tree : Tree) (i : ℕ) → IsTree tree → IsUtf8 tree.text → i < length tree.toks → IfSome (comment_body tree.text (token_at tree.toks i)) (IsPartOf (all_of tree.text))
body_stands tree i is utf8 within =
    let tok : Tok = token_at tree.toks i in
    let here = token_stands tree i is utf8 within in
    let marks : CanCutDelimiters tok.kind (text_of tree.text tok) = delimiters_of tree i (text_of tree.text tok) is within here.utf8 refl in
    stands_body (all_of tree.text) (inside tok.kind (token_part tree.text tok)) (stands_inside (all_of tree.text) (token_part tree.text tok) tok.kind here marks)

-- an ignore comment is in its text
comment_stands : (tree : Tree) (i : ℕ) → IsTree tree → IsUtf8 tree.text → i < length tree.toks → IfSome (ignore_in_token tree.text (token_at tree.toks i)) (LiesAt (all_of tree.text))
comment_stands tree i is utf8 within = stands_ignored (all_of tree.text) (comment_body tree.text (token_at tree.toks i)) (body_stands tree i is utf8 within)

kept_all : {Y : Type 0} (P : Y → Type 0) (o : Option Y) (ys : List Y) → IfSome o P → All P ys → All P (cons_option o ys)
kept_all P None ys h all = all
kept_all P (Some y) ys h all = All-cons P y ys h all

filter_map_all : {X Y : Type 0} (f : X → Option Y) (P : Y → Type 0) (xs : List X) → All (λ x. IfSome (f x) P) xs → All P (filter_map f xs)
filter_map_all f P [] h = All-nil P
filter_map_all f P (x ∷ xs) h =
    kept_all P (f x) (filter_map f xs) (All-head (λ y. IfSome (f y) P) x xs h) (filter_map_all f P xs (All-tail (λ y. IfSome (f y) P) x xs h))

comments_stand : (tree : Tree) → IsTree tree → IsUtf8 tree.text → All (LiesAt (all_of tree.text)) (ignore_comments tree.text tree.toks)
comments_stand tree is utf8 =
    filter_map_all (ignore_in_token tree.text) (LiesAt (all_of tree.text)) tree.toks (All-from_get_or (λ tok. IfSome (ignore_in_token tree.text tok) (LiesAt (all_of tree.text))) tree.toks no_token (λ i within. comment_stands tree i is utf8 within))

-- ---- the names of a text

boundary_after : (a b : List ℕ) → IsUtf8 b → IsCharBoundary (a ++ b) (length a)
boundary_after a b utf8 =
    let start = IsCharBoundary-start b utf8 in
    let size = length-append a b in
    let none : length a + 0 ≡ length a = add-zero (length a) in
    let at : get_or (a ++ b) (length a) 0 ≡ get_or b 0 0 = ap (λ (n : ℕ). get_or (a ++ b) n 0) (sym none) ∙ get_or-append-add a b 0 0 in
    (omega arith, λ lt high. let low = start.1 (omega arith) in omega (arith, low (omega arith)))

-- the range of a part of a text
place_of : (t : Text) (p : Part) → IsPartOf (all_of t) p → IsPlace t (range_of p)
place_of t p h =
    let regroup : h.front ++ (p.bytes ++ h.back) ≡ (h.front ++ p.bytes) ++ h.back = sym (append_assoc h.front p.bytes h.back) in
    let first : IsCharBoundary (h.front ++ (p.bytes ++ h.back)) (length h.front) = boundary_after h.front (p.bytes ++ h.back) (IsUtf8-append p.bytes h.back h.utf8 h.back_utf8) in
    let last : IsCharBoundary ((h.front ++ p.bytes) ++ h.back) (length (h.front ++ p.bytes)) = boundary_after (h.front ++ p.bytes) h.back h.back_utf8 in
    let start : length h.front ≡ p.at = omega (arith, h.place) in
    let end : length (h.front ++ p.bytes) ≡ p.at + length p.bytes = length-append h.front p.bytes ∙ ap (λ (n : ℕ). n + length p.bytes) start in
    record {
      ordered = omega arith;
      start = subst (λ (xs : List ℕ). IsCharBoundary xs p.at) (sym h.is) (subst (λ (n : ℕ). IsCharBoundary (h.front ++ (p.bytes ++ h.back)) n) start first);
      end = subst (λ (xs : List ℕ). IsCharBoundary xs (p.at + length p.bytes)) (sym (h.is ∙ regroup)) (subst (λ (n : ℕ). IsCharBoundary ((h.front ++ p.bytes) ++ h.back) n) end last);
    }

-- a name that is known: its ignore comment is among the first `count`, and it is in the text
pub record IsKnown (text : Text) (count : ℕ) (piece : IgnorePiece) : Type 0 where
  pub ignore : piece.ignore < count
  pub place : IsPlace text piece.range

abbrev IsReported : Text → Violation → Type 0
IsReported text v = IsPlace text v.text_range

known_stands : (t : Text) (number count : ℕ) (names : List Part) → number < count → All (IsPartOf (all_of t)) names → All (IsKnown t count) (flat_map (known_name number) names)
known_stands t number count [] lt h = All-nil (IsKnown t count)
known_stands t number count (p ∷ ps) lt h =
    All-append (IsKnown t count) (known_name number p) (flat_map (known_name number) ps) (one (rule_named p.bytes)) (known_stands t number count ps lt (All-tail (IsPartOf (all_of t)) p ps h))
  where
    one : (o : Option Rule) → All (IsKnown t count) (known_by o number p)
    one None = All-nil (IsKnown t count)
    one (Some r) = All-cons (IsKnown t count) _ [] (record { ignore = lt; place = place_of t p (All-head (IsPartOf (all_of t)) p ps h) }) (All-nil (IsKnown t count))

unknown_stands : (t : Text) (names : List Part) → All (IsPartOf (all_of t)) names → All (IsReported t) (flat_map unknown_name names)
unknown_stands t [] h = All-nil (IsReported t)
unknown_stands t (p ∷ ps) h =
    All-append (IsReported t) (unknown_name p) (flat_map unknown_name ps) (one (rule_named p.bytes)) (unknown_stands t ps (All-tail (IsPartOf (all_of t)) p ps h))
  where
    one : (o : Option Rule) → All (IsReported t) (unknown_by o p)
    one None = All-cons (IsReported t) _ [] (place_of t p (All-head (IsPartOf (all_of t)) p ps h)) (All-nil (IsReported t))
    one (Some r) = All-nil (IsReported t)

pieces_known : (t : Text) (number count : ℕ) (cs : List (Part × IgnoreKind)) → number + length cs ≤ count → All (LiesAt (all_of t)) cs → All (IsKnown t count) (all_said number cs).pieces
pieces_known t number count [] le h = All-nil (IsKnown t count)
pieces_known t number count (c ∷ cs) le h =
    All-append (IsKnown t count) (flat_map (known_name number) (names_in c.0)) (all_said (number + 1) cs).pieces
    (known_stands t number count (names_in c.0) (omega arith) (parts_named (all_of t) c.0 (All-head (LiesAt (all_of t)) c cs h)))
    (pieces_known t (number + 1) count cs (omega arith) (All-tail (LiesAt (all_of t)) c cs h))

names_reported : (t : Text) (number : ℕ) (cs : List (Part × IgnoreKind)) → All (LiesAt (all_of t)) cs → All (IsReported t) (all_said number cs).reports
names_reported t number [] h = All-nil (IsReported t)
names_reported t number (c ∷ cs) h =
    All-append (IsReported t) (flat_map unknown_name (names_in c.0)) (all_said (number + 1) cs).reports
    (unknown_stands t (names_in c.0) (parts_named (all_of t) c.0 (All-head (LiesAt (all_of t)) c cs h)))
    (names_reported t (number + 1) cs (All-tail (LiesAt (all_of t)) c cs h))

ignores_said : (number : ℕ) (cs : List (Part × IgnoreKind)) → length (all_said number cs).ignores ≡ length cs
ignores_said number [] = refl
ignores_said number (c ∷ cs) = ap (λ (n : ℕ). suc n) (ignores_said (number + 1) cs)

-- the known names of a text
pub all_known : (tree : Tree) → IsTree tree → IsUtf8 tree.text → All (IsKnown tree.text (length (found_in tree).ignores)) (found_in tree).pieces
all_known tree is utf8 =
    let cs : List (Part × IgnoreKind) = ignore_comments tree.text tree.toks in
    let count : length (found_in tree).ignores ≡ length cs = ignores_said 0 cs in
    pieces_known tree.text 0 (length (found_in tree).ignores) cs (omega arith) (comments_stand tree is utf8)

pub names_lie_in : (tree : Tree) → IsTree tree → IsUtf8 tree.text → NamesLie tree
names_lie_in tree is utf8 = record {
  unknown = names_reported tree.text 0 (ignore_comments tree.text tree.toks) (comments_stand tree is utf8);
  known = All-weaker (IsKnown tree.text (length (found_in tree).ignores)) (λ piece. IsPlace tree.text piece.range) (λ piece h. h.place) (found_in tree).pieces (all_known tree is utf8);
}

-- one of the known names that were found
pub found_known : (tree : Tree) (text : Text) (ignores : List Ignore) (pieces : List IgnorePiece) (i : ℕ) (piece : IgnorePiece) → IsTree tree → text ≡ tree.text → IsUtf8 text → ignores ≡ (found_in tree).ignores → pieces ≡ (found_in tree).pieces
    → i < length pieces → piece ≡ get_or pieces i piece → IsKnown text (length ignores) piece
found_known tree text ignores pieces i piece is same utf8 whole names within at =
    let known : All (IsKnown tree.text (length (found_in tree).ignores)) (found_in tree).pieces = all_known tree is (subst IsUtf8 same utf8) in
    let P : Text → Type 0 = λ t. IsKnown t (length (found_in tree).ignores) (get_or pieces i piece) in
    let Q : List Ignore → Type 0 = λ gs. IsKnown text (length gs) (get_or pieces i piece) in
    let R : List IgnorePiece → Type 0 = λ ps. All (IsKnown tree.text (length (found_in tree).ignores)) ps in
    let here : IsKnown tree.text (length (found_in tree).ignores) (get_or pieces i piece) = (subst R (sym names) known) i piece within in
    let S : IgnorePiece → Type 0 = λ p. IsKnown text (length ignores) p in
    subst S (sym at) (subst Q (sym whole) (subst P (sym same) here))
