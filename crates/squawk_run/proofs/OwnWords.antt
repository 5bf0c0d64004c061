-- Words without a foreign option set none.
use Rattle.std.proofs.Common.{◌≡◌, sym, ap, refl, subst, Bool, true, false, List, [], ◌∷◌, ◌++◌, Option, Some, None, codes}
use Rattle.std.specs.Prelude.{if◌then◌else◌, option_map, option_and_then}
use Rattle.std.specs.List.{list_any}
use Rattle.std.specs.Str.{bytes_eq}
use Rattle.std.proofs.lemmas.Slice.Eq.{bytes_eq-Decides}
use Rattle.squawk_words.specs.Words.{Settings, State, Table, Text, after_dashes, begins_with_dash, ended, has, name_in, named_word, read_from, set_to, step, table, takes_value, value_in}
use Rattle.squawk_run.specs.ForeignWords.{has_foreign_word, is_among, is_foreign_word, is_option_among}
use Rattle.squawk_run.specs.Laws.{ForeignStaysUnset}
use Rattle.squawk_run.proofs.Search.{none_found, none_more, none_stricter, not_first, not_second}

and_then_some : {A B : Type 0} (f : A → Option B) (o : Option A) (y : B) → option_and_then f o ≡ Some y → (x : A) × (o ≡ Some x) × (f x ≡ Some y)
and_then_some f None y e = absurd cc
and_then_some f (Some x) y e = (x, refl, e)

-- ---- states

-- none of the names is set
abbrev IsOwn : List Text → Settings → Type 0
IsOwn foreign said = list_any (λ p. is_among foreign p.0) said ≡ false

-- no value is waited for, or that of another name
abbrev WaitsForOwn : List Text → Option Text → Type 0
WaitsForOwn foreign None = Unit {0}
WaitsForOwn foreign (Some name) = is_among foreign name ≡ false

abbrev IsOwnState : List Text → State → Type 0
IsOwnState foreign s = WaitsForOwn foreign s.0 × IsOwn foreign s.1

-- ---- one word

same_state : (s t : State) → Some s ≡ Some t → s ≡ t
same_state s t e = cc

own_put : (foreign : List Text) (taken : Bool) (name value : Text) (said : Settings) (s : State) → is_among foreign name ≡ false → IsOwn foreign said
    → option_map (λ x. (None, x)) (if taken then None else Some (said ++ (name, value) ∷ [])) ≡ Some s → IsOwnState foreign s
own_put foreign true name value said s h own e = absurd cc
own_put foreign false name value said s h own e =
    subst (IsOwnState foreign) (same_state (None, said ++ (name, value) ∷ []) s e) (tt, none_more (λ (p : Text × Text). is_among foreign p.0) said (name, value) own h)

own_set : (foreign : List Text) (name value : Text) (said : Settings) (s : State) → is_among foreign name ≡ false → IsOwn foreign said → set_to name value said ≡ Some s → IsOwnState foreign s
own_set foreign name value said s h own e = own_put foreign (has name said) name value said s h own e

own_named : (foreign : List Text) (name : Text) (takes : Option Bool) (value : Option Text) (said : Settings) (s : State) → is_among foreign name ≡ false → IsOwn foreign said
    → named_word name takes value said ≡ Some s → IsOwnState foreign s
own_named foreign name None value said s h own e = absurd cc
own_named foreign name (Some true) None said s h own e = subst (IsOwnState foreign) (same_state (Some name, said) s e) (h, own)
own_named foreign name (Some true) (Some value) said s h own e = own_set foreign name value said s h own e
own_named foreign name (Some false) None said s h own e = own_set foreign name (codes "true") said s h own e
own_named foreign name (Some false) (Some value) said s h own e = absurd cc

own_option : (foreign : List Text) (names : Table) (rest : Option Text) (said : Settings) (s : State) → is_option_among foreign rest ≡ false → IsOwn foreign said
    → option_and_then (λ rest. named_word (name_in rest) (takes_value names (name_in rest)) (value_in rest) said) rest ≡ Some s → IsOwnState foreign s
own_option foreign names None said s h own e = absurd cc
own_option foreign names (Some rest) said s h own e = own_named foreign (name_in rest) (takes_value names (name_in rest)) (value_in rest) said s h own e

own_value : (foreign : List Text) (dash : Bool) (name word : Text) (said : Settings) (s : State) → is_among foreign name ≡ false → IsOwn foreign said
    → (if dash then None else set_to name word said) ≡ Some s → IsOwnState foreign s
own_value foreign true name word said s h own e = absurd cc
own_value foreign false name word said s h own e = own_set foreign name word said s h own e

own_step : (foreign : List Text) (names : Table) (waiting : Option Text) (word : Text) (said : Settings) (s : State) → WaitsForOwn foreign waiting → is_foreign_word foreign word ≡ false
    → IsOwn foreign said → step names waiting word said ≡ Some s → IsOwnState foreign s
own_step foreign names None word said s wait h own e = own_option foreign names (after_dashes word) said s h own e
own_step foreign names (Some name) word said s wait h own e = own_value foreign (begins_with_dash word) name word said s wait own e

-- ---- all words

own_end : (foreign : List Text) (waiting : Option Text) (said out : Settings) → IsOwn foreign said → ended waiting said ≡ Some out → IsOwn foreign out
own_end foreign None said out own e = let same : said ≡ out = cc in subst (IsOwn foreign) same own
own_end foreign (Some name) said out own e = absurd cc

own_walk : (foreign : List Text) (names : Table) (waiting : Option Text) (said : Settings) (words : List Text) (out : Settings) → WaitsForOwn foreign waiting → IsOwn foreign said
    → has_foreign_word foreign words ≡ false → read_from names waiting said words ≡ Some out → IsOwn foreign out
unfolding read_from
own_walk foreign names waiting said [] out wait own h e = own_end foreign waiting said out own e
own_walk foreign names waiting said (word ∷ words) out wait own h e =
    let next = and_then_some (λ (s : State). read_from names s.0 s.1 words) (step names waiting word said) out e in
    let own_next = own_step foreign names waiting word said next.0 wait (not_first (is_foreign_word foreign word) (has_foreign_word foreign words) h) own next.1 in
    own_walk foreign names next.0.0 next.0.1 words out own_next.0 own_next.1 (not_second (is_foreign_word foreign word) (has_foreign_word foreign words) h) next.2

-- ---- one name

-- a name that is one of these stands for each equal one
among_too : (foreign : List Text) (name : Text) → is_among foreign name ≡ true → (p : Text × Text) → bytes_eq p.0 name ≡ true → is_among foreign p.0 ≡ true
among_too foreign name h p e = subst (λ n. is_among foreign n ≡ true) (sym ((bytes_eq-Decides p.0 name).0 e)) h

pub stays_unset : ForeignStaysUnset
stays_unset foreign words said name h e among =
    ap (option_map (λ (p : Text × Text). p.1))
    (none_found (λ (p : Text × Text). bytes_eq p.0 name) said
    (none_stricter (λ (p : Text × Text). is_among foreign p.0) (λ (p : Text × Text). bytes_eq p.0 name) (among_too foreign name among) said
    (own_walk foreign table None [] words said tt refl h e)))
