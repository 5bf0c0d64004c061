-- Bracket groups and paths of changed terminals.
use Rattle.std.proofs.Common.{◌≡◌, ℕ, ◌&&◌, List, [], ◌∷◌, map, refl}
use Rattle.std.specs.Option.{option_map}
use Rattle.sql_token.specs.declared.token.Span.{Span}
use Rattle.sql_token.specs.declared.terminal.Terminal.{Terminal}
use Rattle.sql_token.specs.Terminal.{is_dot, is_name}
use Rattle.sql_tree.specs.Forms.{names_end}
use Rattle.sql_tree.specs.Groups.{is_empty, is_list, inside_list, begins_square, is_square, path_first}
use Rattle.law_renumber.specs.Moved.{span_moved}
use Rattle.law_renumber.proofs.Seen.{square_opener_sees, Change, changed, dot_sees, name_sees}
use Rattle.law_renumber.proofs.Basics.{moves, cond_under}
use Rattle.law_renumber.proofs.Marks.{begins_list_sees, closing_renumbers}

pub is_empty_moved : {A B : Type 0} (g : A → B) (xs : List A) → is_empty (map g xs) ≡ is_empty xs
is_empty_moved g [] = refl
is_empty_moved g (x ∷ xs) = refl

-- ---- bracket groups

pub is_list_sees : (f : Change) (ts : List Terminal) → is_list (map (changed f) ts) ≡ is_list ts
unfolding is_list
is_list_sees f ts = simp (moves, begins_list_sees, closing_renumbers)

pub inside_list_moved : (f : Change) (ts : List Terminal) → inside_list (map (changed f) ts) ≡ map (changed f) (inside_list ts)
unfolding inside_list
inside_list_moved f ts = simp (moves, begins_list_sees, closing_renumbers)

begins_square_sees : (f : Change) (ts : List Terminal) → begins_square (map (changed f) ts) ≡ begins_square ts
begins_square_sees f [] = refl
begins_square_sees f (t ∷ ts) = square_opener_sees f t

pub is_square_sees : (f : Change) (ts : List Terminal) → is_square (map (changed f) ts) ≡ is_square ts
unfolding is_square
is_square_sees f ts = simp (moves, begins_square_sees, closing_renumbers)

-- ---- paths

abbrev pub end_moved : Change → ℕ × List Terminal → ℕ × List Terminal
end_moved f e = (f.number e.0, map (changed f) e.1)

pub names_end_moved : (f : Change) (n : ℕ) (ts : List Terminal) →
    names_end (f.number n) (map (changed f) ts) ≡ end_moved f (names_end n ts)
names_end_moved f n [] = refl
names_end_moved f n (d ∷ []) = refl
names_end_moved f n (d ∷ t ∷ ts) =
    rw (dot_sees f d, name_sees f t, names_end_moved f t.number ts)
    (cond_under (end_moved f) (is_dot d && is_name t) (names_end t.number ts) (n, d ∷ t ∷ ts))

abbrev pub path_moved : Change → Span × List Terminal → Span × List Terminal
path_moved f r = (span_moved f.number r.0, map (changed f) r.1)

pub path_first_moved : (f : Change) (ts : List Terminal) →
    path_first (map (changed f) ts) ≡ option_map (path_moved f) (path_first ts)
unfolding path_first
path_first_moved f [] = refl
path_first_moved f (t ∷ ts) = simp (names_end_moved f t.number ts, moves)
