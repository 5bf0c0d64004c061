-- What reading sees of changed terminals (`Change`). A law of a definition that reads by steps is mostly one `simp` with
-- the set `moves` and the laws of the definitions that it calls: each step's change of numbers moves to its result.
use Rattle.std.proofs.Common.{◌≡◌, ℕ, zero, suc, ◌-◌, Bool, true, false, cond, List, [], ◌∷◌, length, map, get_or, refl, ap, arith, Option, Some, None}
use Rattle.std.specs.List.{All, cons_option, filter_map}
use Rattle.std.specs.Option.{option_map, option_and_then, is_some}
use Rattle.std.proofs.lemmas.List.{get_or-map, length-map, take-map, drop-map, map-append}
use Rattle.std.proofs.lemmas.List.Elements.{All-head, All-tail}
use Rattle.sql_tree.specs.sql_keyword.declared.words.Keyword.{Keyword}
use Rattle.sql_token.specs.declared.terminal.Terminal.{Terminal}
use Rattle.sql_token.specs.Terminal.{is_keyword}
use Rattle.sql_token.specs.Depth.{nothing, span_of}
use Rattle.sql_tree.specs.Forms.{after_word, after_words, either_of}
use Rattle.sql_tree.specs.Split.{and_others, all_of}
use Rattle.law_renumber.proofs.There.{IfThere}
use Rattle.law_renumber.proofs.Seen.{Change, changed, keyword_sees, name_sees, opener_sees, closer_sees, dot_sees, comma_sees, verb_sees, operator_sees, colon_sees, equals_sees, targets_end_sees, round_opener_sees, square_opener_sees, star_sees, str_sees, kin_sees, one_number_sees, value_sign_sees, reindex_target_sees, query_sees, literal_sees, value_end_sees, constraint_word_sees, first_rows_sees, general_rows_sees}

-- ---- steps

-- two ways to go on, over a value and over its image
pub bind_moved : {A B C D : Type 0} (g : A → B) (h : C → D) (k : A → Option C) (k' : B → Option D) →
    ((a : A) → k' (g a) ≡ option_map h (k a)) → (r : Option A) →
    option_and_then k' (option_map g r) ≡ option_map h (option_and_then k r)
bind_moved g h k k' each None = refl
bind_moved g h k k' each (Some a) = each a

-- the same, where each value passes
pub bind_there : {A B C D : Type 0} (P : A → Type 0) (g : A → B) (h : C → D) (k : A → Option C) (k' : B → Option D) →
    ((a : A) → P a → k' (g a) ≡ option_map h (k a)) → (r : Option A) → IfThere P r →
    option_and_then k' (option_map g r) ≡ option_map h (option_and_then k r)
bind_there P g h k k' each None p = refl
bind_there P g h k k' each (Some a) p = each a p

pub then_map : {A B C : Type 0} (k : B → Option C) (g : A → B) (r : Option A) →
    option_and_then k (option_map g r) ≡ option_and_then (λ a. k (g a)) r
then_map k g None = refl
then_map k g (Some a) = refl

pub map_then : {A B C : Type 0} (h : B → C) (k : A → Option B) (r : Option A) →
    option_map h (option_and_then k r) ≡ option_and_then (λ a. option_map h (k a)) r
map_then h k None = refl
map_then h k (Some a) = refl

pub cond_under : {A B : Type 0} (h : A → B) (b : Bool) (x y : A) → cond b (h x) (h y) ≡ h (cond b x y)
cond_under h true x y = refl
cond_under h false x y = refl

pub option_map_cond : {A B : Type 0} (h : A → B) (b : Bool) (x y : Option A) →
    option_map h (cond b x y) ≡ cond b (option_map h x) (option_map h y)
option_map_cond h true x y = refl
option_map_cond h false x y = refl

pub map_cond : {A B : Type 0} (h : A → B) (b : Bool) (x y : List A) → map h (cond b x y) ≡ cond b (map h x) (map h y)
map_cond h true x y = refl
map_cond h false x y = refl

pub is_some_moved : {A B : Type 0} (g : A → B) (o : Option A) → is_some (option_map g o) ≡ is_some o
is_some_moved g None = refl
is_some_moved g (Some a) = refl

pub either_moved : {A B : Type 0} (g : A → B) (r s : Option A) →
    either_of (option_map g r) (option_map g s) ≡ option_map g (either_of r s)
either_moved g (Some r) s = refl
either_moved g None s = refl

-- ---- lists

pub others_moved : {A B : Type 0} (g : A → B) (x : Option A) (others : Option (List A)) →
    and_others (option_map g x) (option_map (map g) others) ≡ option_map (map g) (and_others x others)
others_moved g None others = refl
others_moved g (Some x) None = refl
others_moved g (Some x) (Some others) = refl

-- what each of a list gives, where a function gives it of the changed one
pub all_moved : {X A B : Type 0} (r : X → X) (g : A → B) (k : X → Option A) (k' : X → Option B) →
    ((x : X) → k' (r x) ≡ option_map g (k x)) → (xs : List X) →
    all_of k' (map r xs) ≡ option_map (map g) (all_of k xs)
all_moved r g k k' each [] = refl
all_moved r g k k' each (x ∷ xs) = rw (each x, all_moved r g k k' each xs) (others_moved g (k x) (all_of k xs))

-- the same, where each of the list passes
pub all_there : {X A B : Type 0} (P : X → Type 0) (r : X → X) (g : A → B) (k : X → Option A) (k' : X → Option B) →
    ((x : X) → P x → k' (r x) ≡ option_map g (k x)) → (xs : List X) → All P xs →
    all_of k' (map r xs) ≡ option_map (map g) (all_of k xs)
all_there P r g k k' each [] h = refl
all_there P r g k k' each (x ∷ xs) h =
    rw (each x (All-head P x xs h), all_there P r g k k' each xs (All-tail P x xs h)) (others_moved g (k x) (all_of k xs))

pub map_moved : {X A B : Type 0} (r : X → X) (g : A → B) (k : X → A) (k' : X → B) →
    ((x : X) → k' (r x) ≡ g (k x)) → (xs : List X) → map k' (map r xs) ≡ map g (map k xs)
map_moved r g k k' each [] = refl
map_moved r g k k' each (x ∷ xs) = rw (each x, map_moved r g k k' each xs) refl

cons_moved : {A B : Type 0} (g : A → B) (x : Option A) (others : List A) →
    cons_option (option_map g x) (map g others) ≡ map g (cons_option x others)
cons_moved g None others = refl
cons_moved g (Some x) others = refl

-- what a function gives of each of a list, where it gives something
pub filter_map_moved : {X A B : Type 0} (r : X → X) (g : A → B) (k : X → Option A) (k' : X → Option B) →
    ((x : X) → k' (r x) ≡ option_map g (k x)) → (xs : List X) →
    filter_map k' (map r xs) ≡ map g (filter_map k xs)
filter_map_moved r g k k' each [] = refl
filter_map_moved r g k k' each (x ∷ xs) = rw (each x, filter_map_moved r g k k' each xs) (cons_moved g (k x) (filter_map k xs))

pub ruleset moves = (
  then_map,
  map_then,
  option_map_cond,
  map_cond,
  is_some_moved,
  either_moved,
  length-map,
  take-map,
  drop-map,
  keyword_sees,
  name_sees,
  opener_sees,
  closer_sees,
  dot_sees,
  comma_sees,
  verb_sees,
  operator_sees,
  colon_sees,
  equals_sees,
  targets_end_sees,
  round_opener_sees,
  square_opener_sees,
  star_sees,
  str_sees,
  kin_sees,
  one_number_sees,
  value_sign_sees,
  reindex_target_sees,
  query_sees,
  literal_sees,
  value_end_sees,
  constraint_word_sees,
  first_rows_sees,
  general_rows_sees,
)

-- ---- words

pub after_word_moved : (f : Change) (w : Keyword) (ts : List Terminal) →
    after_word w (map (changed f) ts) ≡ option_map (map (changed f)) (after_word w ts)
after_word_moved f w [] = refl
after_word_moved f w (t ∷ ts) = simp moves

pub after_words_moved : (f : Change) (ws : List Keyword) (ts : List Terminal) →
    after_words ws (map (changed f) ts) ≡ option_map (map (changed f)) (after_words ws ts)
after_words_moved f [] ts = refl
after_words_moved f (w ∷ ws) ts =
    rw (after_word_moved f w ts) (bind_moved _ _ _ _ (after_words_moved f ws) (after_word w ts))

-- ---- single terminals

pub at_sees : (f : Change) (w : Keyword) (ts : List Terminal) (i : ℕ) →
    is_keyword w (get_or (map (changed f) ts) i nothing) ≡ is_keyword w (get_or ts i nothing)
at_sees f w [] i = refl
at_sees f w (t ∷ ts) zero = keyword_sees f w t
at_sees f w (t ∷ ts) (suc i) = at_sees f w ts i

-- ---- spans

-- the terminal at the end, where the list has one
pub last_terminal : (f : Change) (t : Terminal) (ts : List Terminal) →
    get_or (map (changed f) (t ∷ ts)) (length (map (changed f) (t ∷ ts)) - 1) nothing
    ≡ changed f (get_or (t ∷ ts) (length (t ∷ ts) - 1) nothing)
last_terminal f t ts =
    rw (length-map (t ∷ ts) (changed f)) (get_or-map (changed f) (t ∷ ts) (length (t ∷ ts) - 1) nothing nothing (omega arith))

-- The ends of a list are those of its terminals, which a list without terminals has not.
pub record HasEnds (f : Change) (ts : List Terminal) : Type 0 where
  pub first : (get_or (map (changed f) ts) 0 nothing).number ≡ f.number (get_or ts 0 nothing).number
  pub last : (get_or (map (changed f) ts) (length ts - 1) nothing).number ≡ f.number (get_or ts (length ts - 1) nothing).number

pub ends : (f : Change) (t : Terminal) (ts : List Terminal) → HasEnds f (t ∷ ts)
ends f t ts = record { first = refl; last = rw (length-map (t ∷ ts) (changed f)) at (ap (λ x. x.number) (last_terminal f t ts)) }

pub last_moved : (f : Change) (t : Terminal) (ts : List Terminal) →
    (span_of (map (changed f) (t ∷ ts))).last ≡ f.number (span_of (t ∷ ts)).last
last_moved f t ts = ap (λ x. x.number) (last_terminal f t ts)
