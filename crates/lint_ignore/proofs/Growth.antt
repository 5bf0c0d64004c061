-- How lists of what is found grow.
use Rattle.std.proofs.Common.{◌≡◌, ℕ, ◌+◌, ◌<◌, ◌≤◌, List, [], ◌∷◌, ◌++◌, length, take, drop, map, fold, Bool, true, false, subst, Option, Some, None, refl, sym, ◌∙◌, ap, append_assoc, add-zero, length-append, arith}
use Rattle.std.proofs.lemmas.List.{append-nil, take_more, take-append-drop, take_all}
use Rattle.std.proofs.lemmas.List.Concat.{flat_map-append}
use Rattle.std.proofs.lemmas.List.Elements.{filter_map-append}
use Rattle.std.proofs.lemmas.List.Sums.{fold-append}
use Rattle.std.specs.List.{cons_option, flat_map}
use Rattle.std.specs.Prelude.{filter, not, ◌==◌, if◌then◌else◌}
use Rattle.lint_base.specs.declared.rule.Rule.{Rule}
use Rattle.lint_base.specs.GrownLaws.{grown_by_all, grown_by_none, grown_by_first, grown_by_second}
use Rattle.lint_base.specs.RuleSets.{Rules, with_rule, no_rules}
use Rattle.sql_tree.specs.sql_token.declared.token.Tok.{Tok}
use Rattle.sql_tree.specs.Statement.{Tree, no_token}
use Rattle.sql_tree.specs.Range.{token_at}
use Rattle.lint_ignore.specs.declared.ignore.IgnoreKind.{IgnoreKind}
use Rattle.lint_ignore.specs.declared.part.Part.{Part as Kept}
use Rattle.lint_ignore.specs.Part.{Part, part_of, trimmed, comma_parts, parts_left}
use Rattle.lint_ignore.specs.Comment.{ignore_of, ignore_in_token}
use Rattle.lint_ignore.specs.Names.{names_of, names_in, rules_of_name, unknown_name, known_name}
use Rattle.lint_ignore.specs.Found.{Lists, HasGrown, followed_by, named, nothing, rules_named, said, all_said, ignore_comments, ignore_said, found_from}

same_lists : (a b : Lists) → a.reports ≡ b.reports → a.ignores ≡ b.ignores → a.pieces ≡ b.pieces → a ≡ b
same_lists a b r i p = λ x. record { reports = r x; ignores = i x; pieces = p x }

pub followed_by-nothing : (a : Lists) → followed_by a nothing ≡ a
followed_by-nothing a = same_lists _ _ (append-nil a.reports) (append-nil a.ignores) (append-nil a.pieces)

pub followed_by-assoc : (a b c : Lists) → followed_by (followed_by a b) c ≡ followed_by a (followed_by b c)
followed_by-assoc a b c =
    same_lists _ _ (append_assoc a.reports b.reports c.reports) (append_assoc a.ignores b.ignores c.ignores) (append_assoc a.pieces b.pieces c.pieces)

pub grown_none : (old new table : Lists) → new ≡ old → HasGrown old new table
grown_none old new table e = record {
  reports = grown_by_none old.reports new.reports table.reports (ap (λ (l : Lists). l.reports) e);
  ignores = grown_by_none old.ignores new.ignores table.ignores (ap (λ (l : Lists). l.ignores) e);
  pieces = grown_by_none old.pieces new.pieces table.pieces (ap (λ (l : Lists). l.pieces) e);
}

pub grown_first : (old new a b : Lists) → HasGrown old new a → HasGrown old new (followed_by a b)
grown_first old new a b h = record {
  reports = grown_by_first old.reports new.reports a.reports b.reports h.reports;
  ignores = grown_by_first old.ignores new.ignores a.ignores b.ignores h.ignores;
  pieces = grown_by_first old.pieces new.pieces a.pieces b.pieces h.pieces;
}

pub grown_second : (old mid new a b : Lists) → mid ≡ followed_by old a → HasGrown mid new b → HasGrown old new (followed_by a b)
grown_second old mid new a b e h = record {
  reports = grown_by_second old.reports mid.reports new.reports a.reports b.reports (ap (λ (l : Lists). l.reports) e) h.reports;
  ignores = grown_by_second old.ignores mid.ignores new.ignores a.ignores b.ignores (ap (λ (l : Lists). l.ignores) e) h.ignores;
  pieces = grown_by_second old.pieces mid.pieces new.pieces a.pieces b.pieces (ap (λ (l : Lists). l.pieces) e) h.pieces;
}

-- ---- the names of a comment

-- the names so far are kept, and those of what is left follow them
pub record IsReading (rest : Part) (old : Lists) (ignore : ℕ) (left : Option Kept) (names : Rules) (now : Lists) : Type 0 where
  pub done : List Part
  pub split : names_in rest ≡ done ++ names_of (parts_left left)
  pub rules : names ≡ fold with_rule no_rules (flat_map rules_of_name done)
  pub kept : now ≡ followed_by old (named ignore done)

-- how many bytes are left, one more than there are if some part is
abbrev pub bytes_left : Option Kept → ℕ
bytes_left None = 0
bytes_left (Some kept) = length kept.text.now + 1

kept_pieces : (b : Bool) (p : Part) (ps : List Part) → map trimmed (if b then p ∷ ps else ps) ≡ map trimmed (if b then p ∷ [] else []) ++ map trimmed ps
kept_pieces true p ps = refl
kept_pieces false p ps = refl

names_of_cons : (p : Part) (ps : List Part) → names_of (p ∷ ps) ≡ names_of (p ∷ []) ++ names_of ps
names_of_cons p ps = kept_pieces (not (length p.bytes == 0)) p (filter (λ q. not (length q.bytes == 0)) ps)

named_append : (ignore : ℕ) (xs ys : List Part) → named ignore (xs ++ ys) ≡ followed_by (named ignore xs) (named ignore ys)
named_append ignore xs ys = same_lists _ _ (flat_map-append unknown_name xs ys) refl (flat_map-append (known_name ignore) xs ys)

pub reading_begins : (kept : Kept) (old : Lists) (ignore : ℕ) (names : Rules) (now : Lists) → names ≡ no_rules → now ≡ old → IsReading (part_of kept) old ignore (Some kept) names now
reading_begins kept old ignore names now e same =
    record { done = []; split = refl; rules = e; kept = same ∙ sym (followed_by-nothing old) }

pub reading_goes_on : (rest : Part) (old : Lists) (ignore : ℕ) (part piece : Kept) (next : Option Kept) (names more : Rules) (now new : Lists)
    → IsReading rest old ignore (Some part) names now
    → comma_parts (part_of part) ≡ part_of piece ∷ parts_left next
    → more ≡ fold with_rule names (flat_map rules_of_name (names_of (part_of piece ∷ [])))
    → new ≡ followed_by now (named ignore (names_of (part_of piece ∷ [])))
    → IsReading rest old ignore next more new
reading_goes_on rest old ignore part piece next names more now new h cut rules kept =
    let here : List Part = names_of (part_of piece ∷ []) in
    record {
      done = h.done ++ here;
      split = h.split ∙ (ap (λ (ps : List Part). h.done ++ names_of ps) cut ∙ (ap (λ (ps : List Part). h.done ++ ps) (names_of_cons (part_of piece) (parts_left next)) ∙ sym (append_assoc h.done here (names_of (parts_left next)))));
      rules =
          rules
          ∙ (ap (λ (s : Rules). fold with_rule s (flat_map rules_of_name here)) h.rules
          ∙ (sym (fold-append with_rule no_rules (flat_map rules_of_name h.done) (flat_map rules_of_name here))
          ∙ ap (λ (rs : List Rule). fold with_rule no_rules rs) (sym (flat_map-append rules_of_name h.done here))));
      kept =
          kept
          ∙ (ap (λ (l : Lists). followed_by l (named ignore here)) h.kept
          ∙ (followed_by-assoc old (named ignore h.done) (named ignore here) ∙ ap (λ (l : Lists). followed_by old l) (sym (named_append ignore h.done here))));
    }

all_done : (rest : Part) (old : Lists) (ignore : ℕ) (names : Rules) (now : Lists) (h : IsReading rest old ignore None names now) → h.done ≡ names_in rest
all_done rest old ignore names now h = sym (h.split ∙ append-nil h.done)

pub reading_rules : (rest : Part) (old : Lists) (ignore : ℕ) (names : Rules) (now : Lists) → IsReading rest old ignore None names now → names ≡ rules_named (names_in rest)
reading_rules rest old ignore names now h = h.rules ∙ ap (λ (ps : List Part). rules_named ps) (all_done rest old ignore names now h)

pub reading_kept : (rest : Part) (old : Lists) (ignore : ℕ) (names : Rules) (now : Lists) → IsReading rest old ignore None names now → now ≡ followed_by old (named ignore (names_in rest))
reading_kept rest old ignore names now h = h.kept ∙ ap (λ (ps : List Part). followed_by old (named ignore ps)) (all_done rest old ignore names now h)

pub reading_stops : (rest : Part) (old : Lists) (ignore : ℕ) (left : Option Kept) (names : Rules) (now new : Lists)
    → IsReading rest old ignore left names now → new ≡ now → HasGrown old new (named ignore (names_in rest))
reading_stops rest old ignore left names now new h e =
    let more : List Part = names_of (parts_left left) in
    let whole : named ignore (names_in rest) ≡ followed_by (named ignore h.done) (named ignore more) =
    ap (λ (ps : List Part). named ignore ps) h.split ∙ named_append ignore h.done more in
    let P : Lists → Type 0 = λ table. HasGrown old new table in
    subst P (sym whole) (grown_second old now new (named ignore h.done) (named ignore more) h.kept (grown_none now new (named ignore more) e))

-- ---- a comment

pub said_grown_first : (old new : Lists) (number : ℕ) (rest : Part) (kind : IgnoreKind) → number ≡ length old.ignores
    → HasGrown old new (named number (names_in rest)) → HasGrown old new (said (length old.ignores) (rest, kind))
said_grown_first old new number rest kind e h =
    let P : ℕ → Type 0 = λ n. HasGrown old new (named n (names_in rest)) in
    let g : HasGrown old new (named (length old.ignores) (names_in rest)) = subst P e h in
    record { reports = g.reports; ignores = grown_by_first old.ignores new.ignores [] _ g.ignores; pieces = g.pieces }

pub said_grown_last : (old mid new : Lists) (number : ℕ) (rest : Part) (kind : IgnoreKind) → number ≡ length old.ignores
    → mid ≡ followed_by old (named number (names_in rest)) → new ≡ mid → HasGrown old new (said (length old.ignores) (rest, kind))
said_grown_last old mid new number rest kind e kept same =
    let whole : new ≡ followed_by old (named (length old.ignores) (names_in rest)) = same ∙ (kept ∙ ap (λ (n : ℕ). followed_by old (named n (names_in rest))) e) in
    record {
      reports = grown_by_all old.reports new.reports _ (ap (λ (l : Lists). l.reports) whole);
      ignores = grown_by_first old.ignores new.ignores [] _ (grown_by_all old.ignores new.ignores [] (ap (λ (l : Lists). l.ignores) whole));
      pieces = grown_by_all old.pieces new.pieces _ (ap (λ (l : Lists). l.pieces) whole);
    }

-- ---- the comments of a text

all_said_append : (number : ℕ) (cs ds : List (Part × IgnoreKind)) → all_said number (cs ++ ds) ≡ followed_by (all_said number cs) (all_said (number + length cs) ds)
all_said_append number [] ds = ap (λ (n : ℕ). all_said n ds) (sym (add-zero number))
all_said_append number (c ∷ cs) ds =
    let place : number + 1 + length cs ≡ number + length (c ∷ cs) = omega arith in
    ap (λ (l : Lists). followed_by (said number c) l) (all_said_append (number + 1) cs ds ∙ ap (λ (n : ℕ). followed_by (all_said (number + 1) cs) (all_said n ds)) place)
    ∙ sym (followed_by-assoc (said number c) (all_said (number + 1) cs) (all_said (number + length (c ∷ cs)) ds))

-- the comments among the first i tokens
abbrev pub found_before : ℕ → Tree → ℕ → Lists
found_before number tree i = all_said number (ignore_comments tree.text (take i tree.toks))

-- what the comments among the first i tokens say is found
pub record HasFound (tree : Tree) (old now : Lists) (i : ℕ) : Type 0 where
  pub kept : now ≡ followed_by old (found_before (length old.ignores) tree i)
  pub count : length now.ignores ≡ length old.ignores + length (ignore_comments tree.text (take i tree.toks))

one_said : (number : ℕ) (c : Part × IgnoreKind) → all_said number (c ∷ []) ≡ said number c
one_said number c = followed_by-nothing (said number c)

-- none of them is one
pub found_begins : (tree : Tree) (old now : Lists) → now ≡ old → HasFound tree old now 0
found_begins tree old now e = record { kept = e ∙ sym (followed_by-nothing old); count = ap (λ (l : Lists). length l.ignores) e ∙ sym (add-zero (length old.ignores)) }

comments_more : (tree : Tree) (i : ℕ) (o : Option (Part × IgnoreKind)) → i < length tree.toks → ignore_of tree i ≡ o
    → ignore_comments tree.text (take (i + 1) tree.toks) ≡ ignore_comments tree.text (take i tree.toks) ++ cons_option o []
comments_more tree i o h e =
    let before : List (Part × IgnoreKind) = ignore_comments tree.text (take i tree.toks) in
    ap (λ (ks : List Tok). ignore_comments tree.text ks) (take_more tree.toks i no_token h)
    ∙ (filter_map-append (ignore_in_token tree.text) (take i tree.toks) (token_at tree.toks i ∷ []) ∙ ap (λ (c : Option (Part × IgnoreKind)). before ++ cons_option c []) e)

-- the next token is none
pub found_none : (tree : Tree) (old now : Lists) (i : ℕ) → HasFound tree old now i → i < length tree.toks → ignore_of tree i ≡ None → HasFound tree old now (i + 1)
found_none tree old now i found h e =
    let same : ignore_comments tree.text (take i tree.toks) ≡ ignore_comments tree.text (take (i + 1) tree.toks) = sym (comments_more tree i None h e ∙ append-nil _) in
    record {
      kept = found.kept ∙ ap (λ (cs : List (Part × IgnoreKind)). followed_by old (all_said (length old.ignores) cs)) same;
      count = found.count ∙ ap (λ (cs : List (Part × IgnoreKind)). length old.ignores + length cs) same;
    }

-- the comments up to the next token, which is one
before_next : (tree : Tree) (number i n : ℕ) (c : Part × IgnoreKind) → n ≡ number + length (ignore_comments tree.text (take i tree.toks)) → i < length tree.toks → ignore_of tree i ≡ Some c
    → found_before number tree (i + 1) ≡ followed_by (found_before number tree i) (said n c)
before_next tree number i n c place h e =
    let before : List (Part × IgnoreKind) = ignore_comments tree.text (take i tree.toks) in
    ap (λ (cs : List (Part × IgnoreKind)). all_said number cs) (comments_more tree i (Some c) h e)
    ∙ (all_said_append number before (c ∷ [])
    ∙ (ap (λ (l : Lists). followed_by (all_said number before) l) (one_said (number + length before) c)
    ∙ ap (λ (m : ℕ). followed_by (all_said number before) (said m c)) (sym place)))

-- the next token is one
pub found_some : (tree : Tree) (old now new : Lists) (i : ℕ) (c : Part × IgnoreKind) → HasFound tree old now i → i < length tree.toks → ignore_of tree i ≡ Some c
    → new ≡ followed_by now (said (length now.ignores) c) → HasFound tree old new (i + 1)
found_some tree old now new i c found h e more =
    let before : List (Part × IgnoreKind) = ignore_comments tree.text (take i tree.toks) in
    let size : length (before ++ c ∷ []) ≡ length before + 1 = length-append before (c ∷ []) in
    let all : length (ignore_comments tree.text (take (i + 1) tree.toks)) ≡ length before + 1 = ap (λ (cs : List (Part × IgnoreKind)). length cs) (comments_more tree i (Some c) h e) ∙ size in
    let longer : length new.ignores ≡ length now.ignores + 1 = ap (λ (l : Lists). length l.ignores) more ∙ length-append now.ignores (ignore_said c.0 c.1 ∷ []) in
    let count : length now.ignores ≡ length old.ignores + length before = found.count in
    record {
      kept =
          more
          ∙ (ap (λ (l : Lists). followed_by l (said (length now.ignores) c)) found.kept
          ∙ (followed_by-assoc old (found_before (length old.ignores) tree i) (said (length now.ignores) c)
          ∙ ap (λ (l : Lists). followed_by old l) (sym (before_next tree (length old.ignores) i (length now.ignores) c found.count h e))));
      count = omega arith;
    }

-- the next token is one, and was kept in part
pub found_part : (tree : Tree) (old now new : Lists) (i : ℕ) (c : Part × IgnoreKind) → HasFound tree old now i → i < length tree.toks → ignore_of tree i ≡ Some c
    → HasGrown now new (said (length now.ignores) c) → HasGrown old new (found_from (length old.ignores) tree)
found_part tree old now new i c found h e part =
    let number : ℕ = length old.ignores in
    let upto : List (Part × IgnoreKind) = ignore_comments tree.text (take (i + 1) tree.toks) in
    let later : List (Part × IgnoreKind) = ignore_comments tree.text (drop (i + 1) tree.toks) in
    let all : ignore_comments tree.text tree.toks ≡ upto ++ later =
    ap (λ (ks : List Tok). ignore_comments tree.text ks) (sym (take-append-drop (i + 1) tree.toks)) ∙ filter_map-append (ignore_in_token tree.text) (take (i + 1) tree.toks) (drop (i + 1) tree.toks) in
    let whole : found_from number tree ≡ followed_by (followed_by (found_before number tree i) (said (length now.ignores) c)) (all_said (number + length upto) later) =
    ap (λ (cs : List (Part × IgnoreKind)). all_said number cs) all
    ∙ (all_said_append number upto later ∙ ap (λ (l : Lists). followed_by l (all_said (number + length upto) later)) (before_next tree number i (length now.ignores) c found.count h e)) in
    let P : Lists → Type 0 = λ table. HasGrown old new table in
    subst P (sym whole) (grown_first old new _ _ (grown_second old now new (found_before number tree i) (said (length now.ignores) c) found.kept part))

-- all tokens were read
pub found_all : (tree : Tree) (old now : Lists) (i : ℕ) → HasFound tree old now i → length tree.toks ≤ i → now ≡ followed_by old (found_from (length old.ignores) tree)
found_all tree old now i found h = found.kept ∙ ap (λ (ks : List Tok). followed_by old (all_said (length old.ignores) (ignore_comments tree.text ks))) (take_all i tree.toks h)
