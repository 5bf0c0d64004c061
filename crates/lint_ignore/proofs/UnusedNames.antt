-- How the reports of unused names grow.
use Rattle.std.proofs.Common.{◌≡◌, ℕ, ◌+◌, ◌<◌, Bool, true, false, cond, List, [], ◌∷◌, ◌++◌, length, get_or, take, drop, map, sym, ◌∙◌, ap, append_assoc, subst}
use Rattle.std.proofs.lemmas.List.{append-nil, map-append, take-append-drop}
use Rattle.std.proofs.lemmas.List.Elements.{filter-append, filter_more}
use Rattle.std.specs.Prelude.{filter}
use Rattle.sql_tree.specs.sql_token.Token.{Text}
use Rattle.sql_tree.specs.Statement.{Tree}
use Rattle.lint_base.specs.declared.violation.Violation.{Violation}
use Rattle.lint_base.specs.Grown.{GrownBy}
use Rattle.lint_base.specs.GrownLaws.{grown_by_all, grown_by_first}
use Rattle.lint_base.specs.RuleSets.{Rules}
use Rattle.lint_ignore.specs.declared.ignore.Ignore.{Ignore}
use Rattle.lint_ignore.specs.declared.ignore.IgnorePiece.{IgnorePiece}
use Rattle.lint_ignore.specs.Found.{found_in}
use Rattle.lint_ignore.specs.Unused.{counting, is_unused, unused_among, unused_name, unused_names}

among-append : (text : Text) (ignores : List Ignore) (all : List Violation) (enabled : Rules) (xs ys : List IgnorePiece) → unused_among text ignores all enabled (xs ++ ys) ≡ unused_among text ignores all enabled xs ++ unused_among text ignores all enabled ys
among-append text ignores all enabled xs ys =
    ap (λ (ps : List IgnorePiece). map (unused_name text) ps) (filter-append (is_unused text ignores all enabled) xs ys)
    ∙ map-append (unused_name text) (filter (is_unused text ignores all enabled) xs) (filter (is_unused text ignores all enabled) ys)

among_more : (text : Text) (ignores : List Ignore) (all : List Violation) (enabled : Rules) (pieces : List IgnorePiece) (i : ℕ) (piece : IgnorePiece) (b : Bool) → i < length pieces → piece ≡ get_or pieces i piece → b ≡ is_unused text ignores all enabled piece
    → unused_among text ignores all enabled (take (i + 1) pieces) ≡ unused_among text ignores all enabled (take i pieces) ++ map (unused_name text) (cond b (piece ∷ []) [])
among_more text ignores all enabled pieces i piece b within at e =
    let one : IgnorePiece → List IgnorePiece = λ p. cond (is_unused text ignores all enabled p) (p ∷ []) [] in
    let before : List IgnorePiece = filter (is_unused text ignores all enabled) (take i pieces) in
    ap (λ (ps : List IgnorePiece). map (unused_name text) ps) (filter_more (is_unused text ignores all enabled) pieces i piece within)
    ∙ (map-append (unused_name text) before (one (get_or pieces i piece))
    ∙ (ap (λ (p : IgnorePiece). map (unused_name text) before ++ map (unused_name text) (one p)) (sym at)
    ∙ ap (λ (c : Bool). map (unused_name text) before ++ map (unused_name text) (cond c (piece ∷ []) [])) (sym e)))

-- the next name was reported
pub one_reported : (text : Text) (ignores : List Ignore) (all : List Violation) (enabled : Rules) (pieces : List IgnorePiece) (i : ℕ) (piece : IgnorePiece) (b : Bool) (old now new : List Violation) → i < length pieces → piece ≡ get_or pieces i piece → b ≡ is_unused text ignores all enabled piece → b ≡ true
    → now ≡ old ++ unused_among text ignores all enabled (take i pieces) → new ≡ now ++ unused_name text piece ∷ [] → new ≡ old ++ unused_among text ignores all enabled (take (i + 1) pieces)
one_reported text ignores all enabled pieces i piece b old now new within at e passes before more =
    let next = among_more text ignores all enabled pieces i piece true within at (sym passes ∙ e) in
    more
    ∙ (ap (λ (vs : List Violation). vs ++ unused_name text piece ∷ []) before
    ∙ (append_assoc old (unused_among text ignores all enabled (take i pieces)) (unused_name text piece ∷ []) ∙ ap (λ (vs : List Violation). old ++ vs) (sym next)))

-- the next name was passed over
pub none_reported : (text : Text) (ignores : List Ignore) (all : List Violation) (enabled : Rules) (pieces : List IgnorePiece) (i : ℕ) (piece : IgnorePiece) (b : Bool) (old now new : List Violation) → i < length pieces → piece ≡ get_or pieces i piece → b ≡ is_unused text ignores all enabled piece → b ≡ false
    → now ≡ old ++ unused_among text ignores all enabled (take i pieces) → new ≡ now → new ≡ old ++ unused_among text ignores all enabled (take (i + 1) pieces)
none_reported text ignores all enabled pieces i piece b old now new within at e fails before same =
    let next = among_more text ignores all enabled pieces i piece false within at (sym fails ∙ e) in
    same ∙ (before ∙ ap (λ (vs : List Violation). old ++ vs) (sym (next ∙ append-nil (unused_among text ignores all enabled (take i pieces)))))

-- the names of a text
pub among_names : (tree : Tree) (text : Text) (ignores : List Ignore) (all : List Violation) (enabled rules : Rules) (pieces : List IgnorePiece) → text ≡ tree.text → ignores ≡ (found_in tree).ignores → pieces ≡ (found_in tree).pieces → enabled ≡ counting rules
    → unused_among text ignores all enabled pieces ≡ unused_names tree all rules
among_names tree text ignores all enabled rules pieces t g p c = λ i. unused_among (t i) (g i) all (c i) (p i)

-- the names so far are a prefix of all
pub prefix_reported : (text : Text) (ignores : List Ignore) (all : List Violation) (enabled : Rules) (pieces : List IgnorePiece) (i : ℕ) (old now new table : List Violation)
    → now ≡ old ++ unused_among text ignores all enabled (take i pieces) → new ≡ now → unused_among text ignores all enabled pieces ≡ table → GrownBy old new table
prefix_reported text ignores all enabled pieces i old now new table before same is =
    let upto : List Violation = unused_among text ignores all enabled (take i pieces) in
    let later : List Violation = unused_among text ignores all enabled (drop i pieces) in
    let whole : upto ++ later ≡ table = sym (among-append text ignores all enabled (take i pieces) (drop i pieces)) ∙ (ap (λ (ps : List IgnorePiece). unused_among text ignores all enabled ps) (take-append-drop i pieces) ∙ is) in
    subst (λ (vs : List Violation). GrownBy old new vs) whole (grown_by_first old new upto later (grown_by_all old new upto (same ∙ before)))
