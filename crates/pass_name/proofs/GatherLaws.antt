-- What the loops over members and over their lists keep.
use Rattle.std.proofs.Common.{◌≡◌, ◌∙◌, sym, ap, true, ℕ, ◌+◌, ◌<◌, ◌≤◌, List, [], ◌∷◌, ◌++◌, length, take, get_or, map, filter, append_assoc}
use Rattle.std.proofs.lemmas.List.{append-nil, take_more, take_all}
use Rattle.std.proofs.lemmas.List.Elements.{filter-append}
use Rattle.std.proofs.lemmas.Simd.{map-map}
use Rattle.std.specs.Prelude.{Vec}
use Rattle.std.specs.List.{flat_map}
use Rattle.std.specs.Str.{bytes_eq}
use Rattle.lint_pass.specs.sql_name.declared.name.Name.{Name}
use Rattle.lint_pass.specs.sql_tree.Statement.{Tree}
use Rattle.lint_pass.specs.lint_base.declared.violation.Violation.{Violation}
use Rattle.pass_name.specs.declared.members.ListKind.{ListKind}
use Rattle.pass_name.specs.declared.members.Member.{Member}
use Rattle.pass_name.specs.BanDuplicateColumnAssignments.{reports_of_group, reports_of_names}
use Rattle.pass_name.specs.Entries.{items_of, entry_seen}
use Rattle.pass_name.specs.Gathered.{put}
use Rattle.pass_name.specs.Groups.{are_apart, groups, is_repeated}
use Rattle.pass_name.specs.Members.{key_of, same_name}
use Rattle.pass_name.proofs.Gathered.{apart_groups, gathered, gathered-snoc, gathered-alike}
use Rattle.pass_name.proofs.NameLaws.{same_bytes, equal_bytes}

abbrev pub gathered_by : Tree → List Member → List (List ℕ × List Member)
gathered_by tree xs = gathered bytes_eq same_bytes equal_bytes (key_of tree) xs

-- one more member was put in
pub member_next : (tree : Tree) (xs : List Member) (i : ℕ) (d : Member) (was new : List (List ℕ × List Member)) (name : List ℕ)
    → i < length xs → was ≡ gathered_by tree (take i xs) → name ≡ key_of tree (get_or xs i d) → new ≡ put bytes_eq was name (get_or xs i d)
    → new ≡ gathered_by tree (take (i + 1) xs)
member_next tree xs i d was new name l w k n =
    n ∙ (λ j. put bytes_eq (w j) (k j) (get_or xs i d))
    ∙ sym (gathered-snoc bytes_eq same_bytes equal_bytes (key_of tree) (take i xs) (get_or xs i d))
    ∙ ap (gathered_by tree) (sym (take_more xs i d l))

-- one more list was seen
pub list_next : {X Z : Type 0} (left later : List (Vec X Z)) (v : Vec X Z) (found all more : List (List X)) → left ≡ v ∷ later → more ≡ found ++ filter is_repeated (items_of v ∷ [])
    → found ++ filter is_repeated (map items_of left) ≡ all → more ++ filter is_repeated (map items_of later) ≡ all
list_next left later v found all more s m h =
    ap (λ xs. xs ++ filter is_repeated (map items_of later)) m
    ∙ append_assoc found (filter is_repeated (items_of v ∷ [])) (filter is_repeated (map items_of later))
    ∙ ap (λ xs. found ++ xs) (sym (filter-append is_repeated (items_of v ∷ []) (map items_of later)))
    ∙ ap (λ vs. found ++ filter is_repeated (map items_of vs)) (sym s) ∙ h

-- all lists were seen
pub all_seen : {Z : Type 0} (tree : Tree) (xs : List Member) (n : ℕ) (es : List (Name × Vec Member Z)) (left all : List (Vec Member Z)) (found : List (List Member))
    → length xs ≤ n → map entry_seen es ≡ gathered_by tree (take n xs) → all ≡ map (λ e. e.1) es → left ≡ []
    → found ++ filter is_repeated (map items_of left) ≡ filter is_repeated (map items_of all)
    → found ≡ groups (same_name tree) xs
unfolding groups
all_seen {Z = Z} tree xs n es left all found l m a e h =
    sym (append-nil found) ∙ ap (λ vs. found ++ filter is_repeated (map items_of vs)) (sym e) ∙ h
    ∙ ap (λ vs. filter is_repeated (map items_of vs)) a
    ∙ ap (filter is_repeated) (map-map items_of (λ (p : Name × Vec Member Z). p.1) es ∙ sym (map-map (λ (p : List ℕ × List Member). p.1) entry_seen es)
    ∙ ap (map (λ (p : List ℕ × List Member). p.1)) (m ∙ ap (gathered_by tree) (take_all n xs l))
    ∙ gathered-alike bytes_eq same_bytes equal_bytes (key_of tree) xs)

-- where no two names are equal, nothing is reported of them
pub apart_reports : (kind : ListKind) (tree : Tree) (names : List Member) (out : List Violation) → are_apart (same_name tree) names ≡ true → out ≡ out ++ reports_of_names kind tree names
unfolding reports_of_names
apart_reports kind tree names out h =
    sym (append-nil out)
    ∙ ap (λ gs. out ++ flat_map (reports_of_group kind tree) gs) (sym (apart_groups bytes_eq same_bytes equal_bytes (key_of tree) names h))
