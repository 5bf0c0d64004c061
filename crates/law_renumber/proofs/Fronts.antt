-- Fronts of statements of changed terminals: one lemma for each shape of part, then parts, rows and tables of rows.
use Rattle.std.proofs.Common.{◌≡◌, ◌==◌, Bool, true, false, not, ◌&&◌, ◌||◌, cond, List, [], ◌∷◌, length, map, refl, ap, Option, Some, None}
use Rattle.std.specs.Option.{option_map, option_and_then}
use Rattle.std.proofs.lemmas.List.{length-map}
use Rattle.sql_tree.specs.sql_keyword.declared.words.TheConstants.Keyword as keyword
use Rattle.sql_token.specs.declared.terminal.Terminal.{Terminal}
use Rattle.sql_token.specs.Terminal.{is_keyword, is_name}
use Rattle.sql_tree.specs.declared.kinds.StmtKind.{StmtKind}
use Rattle.sql_tree.specs.declared.forms.Fact.{Fact}
use Rattle.sql_tree.specs.declared.forms.Fact.TheVariants as m
use Rattle.sql_tree.specs.declared.forms.Phrase.{Phrase}
use Rattle.sql_tree.specs.declared.forms.Phrase.TheVariants as phrase
use Rattle.sql_tree.specs.declared.forms.Part.{Part}
use Rattle.sql_tree.specs.declared.forms.Part.TheVariants as p
use Rattle.sql_tree.specs.declared.forms.Captures.{Captures}
use Rattle.sql_tree.specs.Words.{is_of_class}
use Rattle.sql_tree.specs.Split.{from_mark, into, privileges, after_list}
use Rattle.sql_tree.specs.Forms.{State, at, one, nothing_kept, word_kept, name_kept, concurrently_kept, record_fact, or_here, take_phrase, either_of, take_path, is_temp, is_other_mod, take_mods, index_name, guard, take_index_name, take_chain, is_star_symbol, take_into, is_str_symbol, take_list, some_left, opened, take_part, in_turn, all_taken, Row, finished, led_or, fresh, first_led, first_whole}
use Rattle.law_renumber.specs.Renumber.{captures_moved, state_moved, front_moved, PartRenumbers, PartsRenumber, FrontRenumbers, WholeRenumbers}
use Rattle.law_renumber.proofs.Seen.{class_sees, str_sees, star_sees, Change, Changes, changed, keyword_sees, name_sees}
use Rattle.law_renumber.proofs.Basics.{moves, bind_moved, cond_under, either_moved, after_words_moved}
use Rattle.law_renumber.proofs.Groups.{names_end_moved}
use Rattle.law_renumber.proofs.Marks.{into_is_blind, privileges_is_blind, from_mark_moved, after_list_moved}

-- ---- one terminal

pub tell_moved : (f : Change) (mark : Fact) (c : Captures) → record_fact mark (captures_moved f.number c) ≡ captures_moved f.number (record_fact mark c)
tell_moved f m.Nothing c = refl
tell_moved f m.Unique c = refl
tell_moved f m.Guarded c = refl
tell_moved f m.Chain c = refl
tell_moved f m.Replace c = refl
tell_moved f m.NotPlain c = refl
tell_moved f m.Placed c = refl

one_moved : (f : Change) (test : Terminal → Bool) (keep : Terminal → Captures → Captures) →
    ((t : Terminal) → test (changed f t) ≡ test t) →
    ((t : Terminal) (c : Captures) → keep (changed f t) (captures_moved f.number c) ≡ captures_moved f.number (keep t c)) →
    (c : Captures) (ts : List Terminal) →
    one test keep (captures_moved f.number c) (map (changed f) ts) ≡ option_map (state_moved (changed f) f.number) (one test keep c ts)
one_moved f test keep sees keeps c [] = refl
one_moved f test keep sees keeps c (t ∷ ts) =
    rw (sees t, keeps t c) (cond_under (option_map (state_moved (changed f) f.number)) (test t) (Some (at (keep t c) ts)) None)

or_here_moved : (f : Change) (r : Option State) (c : Captures) (ts : List Terminal) →
    or_here (option_map (state_moved (changed f) f.number) r) (captures_moved f.number c) (map (changed f) ts) ≡ state_moved (changed f) f.number (or_here r c ts)
or_here_moved f None c ts = refl
or_here_moved f (Some s) c ts = refl

-- a terminal that passes the test, where it is present
maybe_moved : (f : Change) (test : Terminal → Bool) (keep : Terminal → Captures → Captures) →
    ((t : Terminal) → test (changed f t) ≡ test t) →
    ((t : Terminal) (c : Captures) → keep (changed f t) (captures_moved f.number c) ≡ captures_moved f.number (keep t c)) →
    (c : Captures) (ts : List Terminal) →
    or_here (one test keep (captures_moved f.number c) (map (changed f) ts)) (captures_moved f.number c) (map (changed f) ts)
    ≡ state_moved (changed f) f.number (or_here (one test keep c ts) c ts)
maybe_moved f test keep sees keeps c ts = rw (one_moved f test keep sees keeps c ts) (or_here_moved f (one test keep c ts) c ts)

-- ---- phrases

phrase_moved : (f : Change) (x : Phrase) (mark : Fact) (c : Captures) (ts : List Terminal) →
    take_phrase x mark (captures_moved f.number c) (map (changed f) ts) ≡ option_map (state_moved (changed f) f.number) (take_phrase x mark c ts)
phrase_moved f x mark c ts = simp (after_words_moved, tell_moved, moves)

maybe_phrase_moved : (f : Change) (x : Phrase) (mark : Fact) (c : Captures) (ts : List Terminal) →
    or_here (take_phrase x mark (captures_moved f.number c) (map (changed f) ts)) (captures_moved f.number c) (map (changed f) ts)
    ≡ state_moved (changed f) f.number (or_here (take_phrase x mark c ts) c ts)
maybe_phrase_moved f x mark c ts = rw (phrase_moved f x mark c ts) (or_here_moved f (take_phrase x mark c ts) c ts)

chain_moved : (f : Change) (c : Captures) (ts : List Terminal) →
    take_chain (captures_moved f.number c) (map (changed f) ts) ≡ state_moved (changed f) f.number (take_chain c ts)
chain_moved f c ts =
    let some = take_phrase phrase.AndChain m.Chain c ts in
    let none = take_phrase phrase.AndNoChain m.Nothing c ts in
    rw (phrase_moved f phrase.AndChain m.Chain c ts, phrase_moved f phrase.AndNoChain m.Nothing c ts, either_moved (state_moved (changed f) f.number) some none)
    (or_here_moved f (either_of some none) c ts)

-- ---- names

index_name_moved : (f : Change) (c : Captures) (ts : List Terminal) →
    index_name (captures_moved f.number c) (map (changed f) ts) ≡ option_map (state_moved (changed f) f.number) (index_name c ts)
index_name_moved f c ts =
    one_moved f (λ t. is_name t && not (is_keyword keyword.ON t)) name_kept (λ t. simp moves) (λ t c. refl) c ts

index_name_from : (f : Change) (g h : State) (c : Captures) (ts : List Terminal) → h ≡ state_moved (changed f) f.number g →
    or_here (index_name h.kept h.left) (captures_moved f.number c) (map (changed f) ts)
    ≡ state_moved (changed f) f.number (or_here (index_name g.kept g.left) c ts)
index_name_from f g h c ts e =
    rw (e, index_name_moved f g.kept g.left) (or_here_moved f (index_name g.kept g.left) c ts)

take_index_name_moved : (f : Change) (c : Captures) (ts : List Terminal) →
    take_index_name (captures_moved f.number c) (map (changed f) ts) ≡ state_moved (changed f) f.number (take_index_name c ts)
take_index_name_moved f c ts =
    index_name_from f (guard c ts) (guard (captures_moved f.number c) (map (changed f) ts)) c ts
    (maybe_phrase_moved f phrase.IfNotExists m.Guarded c ts)

path_moved : (f : Change) (c : Captures) (ts : List Terminal) →
    take_path (captures_moved f.number c) (map (changed f) ts) ≡ option_map (state_moved (changed f) f.number) (take_path c ts)
path_moved f c [] = refl
path_moved f c (t ∷ ts) = simp (names_end_moved f t.number ts, moves)

-- ---- modifiers

three_ways : (f : Change) (a b : Bool) (x y z : State) →
    cond a (state_moved (changed f) f.number x) (cond b (state_moved (changed f) f.number y) (state_moved (changed f) f.number z)) ≡ state_moved (changed f) f.number (cond a x (cond b y z))
three_ways f true b x y z = refl
three_ways f false true x y z = refl
three_ways f false false x y z = refl

temp_sees : (f : Change) (t : Terminal) → is_temp (changed f t) ≡ is_temp t
temp_sees f t = simp moves

other_mod_sees : (f : Change) (t : Terminal) → is_other_mod (changed f t) ≡ is_other_mod t
other_mod_sees f t = simp moves

mods_moved : (f : Change) (c : Captures) (ts : List Terminal) →
    take_mods (captures_moved f.number c) (map (changed f) ts) ≡ state_moved (changed f) f.number (take_mods c ts)
mods_moved f c [] = refl
mods_moved f c (t ∷ ts) =
    rw (temp_sees f t, other_mod_sees f t, mods_moved f (record c { temp = true }) ts, mods_moved f c ts)
    (three_ways f (is_temp t) (is_other_mod t) (take_mods (record c { temp = true }) ts) (take_mods c ts) (at c (t ∷ ts)))

-- ---- parts

into_moved : (f : Change) (c : Captures) (ts : List Terminal) →
    take_into (captures_moved f.number c) (map (changed f) ts) ≡ option_map (state_moved (changed f) f.number) (take_into c ts)
into_moved f c ts =
    rw (from_mark_moved into into_is_blind f ts)
    (one_moved f (is_keyword keyword.INTO) nothing_kept (keyword_sees f keyword.INTO) (λ t c. refl) c (from_mark into ts))

list_moved : (f : Change) (c : Captures) (ts : List Terminal) →
    take_list (captures_moved f.number c) (map (changed f) ts) ≡ option_map (state_moved (changed f) f.number) (take_list c ts)
list_moved f c ts =
    rw (after_list_moved f ts)
    (bind_moved (map (changed f)) (state_moved (changed f) f.number)
    (λ rest. Some (at c rest)) (λ rest. Some (at (captures_moved f.number c) rest)) (λ rest. refl) (after_list ts))

some_left_moved : (f : Change) (c : Captures) (ts : List Terminal) →
    some_left (captures_moved f.number c) (map (changed f) ts) ≡ option_map (state_moved (changed f) f.number) (some_left c ts)
some_left_moved f c [] = refl
some_left_moved f c (t ∷ ts) = refl

pub part_renumbers : Changes PartRenumbers
unfolding take_part
part_renumbers f (p.Word w) c ts = one_moved f (is_keyword w) nothing_kept (keyword_sees f w) (λ t c. refl) c ts
part_renumbers f (p.Object w) c ts = one_moved f (is_keyword w) word_kept (keyword_sees f w) (λ t c. refl) c ts
part_renumbers f (p.MaybeObject w) c ts = ap Some (maybe_moved f (is_keyword w) word_kept (keyword_sees f w) (λ t c. refl) c ts)
part_renumbers f (p.Tell mark) c ts = ap (λ d. Some (at d (map (changed f) ts))) (tell_moved f mark c)
part_renumbers f (p.Flag w mark) c ts =
    ap Some (maybe_moved f (is_keyword w) (λ t c. record_fact mark c) (keyword_sees f w) (λ t c. tell_moved f mark c) c ts)
part_renumbers f (p.Either v w) c ts =
    ap Some (maybe_moved f (λ t. is_keyword v t || is_keyword w t) word_kept
    (λ t. rw (keyword_sees f v t, keyword_sees f w t) refl) (λ t c. refl) c ts)
part_renumbers f (p.Maybe x mark) c ts = ap Some (maybe_phrase_moved f x mark c ts)
part_renumbers f p.Chain c ts = ap Some (chain_moved f c ts)
part_renumbers f p.Concurrently c ts =
    ap Some (maybe_moved f (is_keyword keyword.CONCURRENTLY) concurrently_kept (keyword_sees f keyword.CONCURRENTLY) (λ t c. refl) c ts)
part_renumbers f p.IndexName c ts = ap Some (take_index_name_moved f c ts)
part_renumbers f p.Mods c ts = ap Some (mods_moved f c ts)
part_renumbers f p.Name c ts = one_moved f is_name name_kept (name_sees f) (λ t c. refl) c ts
part_renumbers f p.Path c ts = path_moved f c ts
part_renumbers f p.Str c ts = one_moved f (λ t. is_str_symbol t.symbol) name_kept (str_sees f) (λ t c. refl) c ts
part_renumbers f (p.AnyOf class) c ts = one_moved f (is_of_class class) nothing_kept (class_sees f class) (λ t c. refl) c ts
part_renumbers f p.AnyName c ts = one_moved f is_name nothing_kept (name_sees f) (λ t c. refl) c ts
part_renumbers f p.List c ts = list_moved f c ts
part_renumbers f p.MaybeList c ts = ap Some (rw (list_moved f c ts) (or_here_moved f (take_list c ts) c ts))
part_renumbers f p.Star c ts =
    ap Some (maybe_moved f (λ t. is_star_symbol t.symbol) nothing_kept (star_sees f) (λ t c. refl) c ts)
part_renumbers f p.Into c ts = into_moved f c ts
part_renumbers f p.Privileges c ts =
    rw (from_mark_moved privileges privileges_is_blind f ts) (some_left_moved f c (from_mark privileges ts))
part_renumbers f p.Rest c ts = refl
part_renumbers f p.Tail c ts = some_left_moved f (opened c) ts

pub parts_renumber : Changes PartsRenumber
parts_renumber f [] c ts = refl
parts_renumber f (x ∷ xs) c ts =
    rw (part_renumbers f x c ts)
    (bind_moved (state_moved (changed f) f.number) (state_moved (changed f) f.number) (λ s. in_turn xs s.kept s.left) (λ s. in_turn xs s.kept s.left)
    (λ s. parts_renumber f xs s.kept s.left) (take_part x c ts))

-- ---- rows

all_taken_moved : (f : Change) (s : State) → all_taken (state_moved (changed f) f.number s) ≡ option_map (state_moved (changed f) f.number) (all_taken s)
all_taken_moved f s =
    rw (length-map s.left (changed f))
    (cond_under (option_map (state_moved (changed f) f.number)) (s.kept.open_ended || length s.left == 0) (Some s) None)

finished_moved : {K : Type 0} (f : Change) (kind : K) (parts : List Part) (s : State) →
    finished kind parts (state_moved (changed f) f.number s) ≡ option_map (front_moved (changed f) f.number) (finished kind parts s)
finished_moved f kind parts s =
    rw (parts_renumber f parts s.kept s.left)
    (bind_moved (state_moved (changed f) f.number) (front_moved (changed f) f.number)
    (λ e. option_and_then (λ w. Some (kind, w)) (all_taken e)) (λ e. option_and_then (λ w. Some (kind, w)) (all_taken e))
    (λ e. rw (all_taken_moved f e)
    (bind_moved (state_moved (changed f) f.number) (front_moved (changed f) f.number) (λ w. Some (kind, w)) (λ w. Some (kind, w)) (λ w. refl) (all_taken e)))
    (in_turn parts s.kept s.left))

led_or_moved : (f : Change) (lead : Option State) (r : Row) (other : Option (StmtKind × State)) →
    led_or (option_map (state_moved (changed f) f.number) lead) r (option_map (front_moved (changed f) f.number) other) ≡ option_map (front_moved (changed f) f.number) (led_or lead r other)
led_or_moved f None r other = refl
led_or_moved f (Some s) r other = finished_moved f r.0 r.2 s

pub front_renumbers : Changes FrontRenumbers
front_renumbers f [] ts = refl
front_renumbers f (r ∷ rs) ts =
    rw (parts_renumber f r.1 fresh ts, front_renumbers f rs ts) (led_or_moved f (in_turn r.1 fresh ts) r (first_led rs ts))

pub whole_renumbers : {K : Type 0} → Changes (WholeRenumbers K)
whole_renumbers f [] ts = refl
whole_renumbers f (r ∷ rs) ts =
    rw (finished_moved f r.0 r.1 (at fresh ts), whole_renumbers f rs ts)
    (either_moved (front_moved (changed f) f.number) (finished r.0 r.1 (at fresh ts)) (first_whole rs ts))
