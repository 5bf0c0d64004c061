-- What the final rows say, and what the words that are no candidates come to.
use Rattle.std.proofs.Common.{◌≡◌, ◌∙◌, ◌==◌, ◌⊎◌, Bool, true, false, refl, sym, ap, ap₂, subst, inl, inr, true≢false, List, [], ◌∷◌, ◌++◌, Option, Some, None, option_map, is_some, codes, if◌then◌else◌}
use Rattle.std.specs.Prelude.{find, fold, option_and_then}
use Rattle.std.specs.List.{list_all, list_any}
use Rattle.std.specs.Option.{option_or}
use Rattle.std.specs.Str.{bytes_eq}
use Rattle.std.proofs.lemmas.List.Folds.{find-append}
use Rattle.clap.specs.Walk.{Row, first_of, has_row, more_values, nothing_held, one_of, row_text, walk, walk_from, with_default}
use Rattle.clap.specs.Faults.{fault_of, is_simple_and_free, level_fault}
use Rattle.clap.specs.Simple.{built, entered, is_simple, matches_of}
use Rattle.clap.specs.Matches.{first_value}
use Rattle.clap.specs.declared.parser.matches.Found.{Found}
use Rattle.clap.specs.declared.parser.matches.ValueSource.TheVariants.{DefaultValue}
use Rattle.clap.specs.declared.builder.value_parser.Reading.TheVariants as reading
use Rattle.clap.proofs.OnLiterals.{clap_on_literals}
use Rattle.clap.proofs.WalkLemmas.{first_value-rows, one_text-rows}
use Rattle.clap.specs.Walk.{rows_of}
use Rattle.squawk_words.specs.Command.{IsFlag, IsGiven, app, is_tidy}
use Rattle.squawk_words.specs.Choices.{Said, said_in}
use Rattle.squawk_words.specs.Words.{Settings, State, Table, Text, after_dashes, begins_with_dash, has, name_in, named_word, settings_of, read_from, set_to, step, table, takes_value, value_in, value_of}
use Rattle.squawk_words.proofs.Lookup.{at_no_row, has_row_for, rows_for, rule_for, rules_for, same_bytes, shape_for}
use Rattle.squawk_words.proofs.Walks.{Match, as_defined, fault_from, final, rows_from}

-- ---- words that may not are there

record IsUntidy (word : Text) : Type 0 where
  begins : begins_with_dash word ≡ true
  dashes : (after_dashes word ≡ None) ⊎ (after_dashes word ≡ Some [])

untidy : (word : Text) → is_tidy word ≡ false → IsUntidy word
untidy [] h = absurd (true≢false h)
untidy (x ∷ []) h = go (x == 45) refl
  where
    go : (b : Bool) → (x == 45) ≡ b → IsUntidy (x ∷ [])
    go true e = record { begins = e; dashes = inl refl }
    go false e = absurd (true≢false (rw e at h))
untidy (x ∷ y ∷ []) h = go (x == 45) refl (y == 45) refl
  where
    go : (b : Bool) → (x == 45) ≡ b → (d : Bool) → (y == 45) ≡ d → IsUntidy (x ∷ y ∷ [])
    go true e true f = record { begins = e; dashes = inr (rw (e, f) refl) }
    go true e false f = record { begins = e; dashes = inl (rw (e, f) refl) }
    go false e d f = absurd (true≢false (rw e at h))
untidy (x ∷ y ∷ z ∷ rest) h = go (x == 45) refl
  where
    go : (b : Bool) → (x == 45) ≡ b → IsUntidy (x ∷ y ∷ z ∷ rest)
    go true e = let f : (y == 45) ≡ false = rw e at h in record { begins = e; dashes = inl (rw (e, f) refl) }
    go false e = absurd (true≢false (rw e at h))

untidy_step : (t : Table) → takes_value t [] ≡ None → (waiting : Option Text) (word : Text) (said : Settings) → is_tidy word ≡ false
    → step t waiting word said ≡ None
untidy_step t none (Some n) word said h = rw (untidy word h).begins refl
untidy_step t none None word said h = elim (untidy word h).dashes [ inl e ↦ rw e refl | inr e ↦ rw (e, none) refl ]

stays_none : (t : Table) (ws : List Text) (o : Option State) → ((waiting : Option Text) (said : Settings) → read_from t waiting said ws ≡ None)
    → option_and_then (λ s. read_from t s.0 s.1 ws) o ≡ None
stays_none t ws None h = refl
stays_none t ws (Some s) h = h s.0 s.1

pub untidy_refused : (t : Table) → takes_value t [] ≡ None → (ws : List Text) → list_all is_tidy ws ≡ false → (waiting : Option Text) (said : Settings)
    → read_from t waiting said ws ≡ None
unfolding read_from
untidy_refused t none [] h waiting said = absurd (true≢false h)
untidy_refused t none (word ∷ ws) h waiting said = go (is_tidy word) refl (untidy_refused t none ws)
  where
    go : (b : Bool) → is_tidy word ≡ b → (list_all is_tidy ws ≡ false → (waiting : Option Text) (said : Settings) → read_from t waiting said ws ≡ None)
        → read_from t waiting said (word ∷ ws) ≡ None
    go true e below = stays_none t ws (step t waiting word said) (below (rw e at h))
    go false e below = ap (option_and_then (λ s. read_from t s.0 s.1 ws)) (untidy_step t none waiting word said e)

-- ---- the command at hand

pub is_free : is_simple_and_free app ≡ true
unfolding clap_on_literals
is_free = refl

pub is_plain : is_simple app ≡ true
unfolding clap_on_literals
is_plain = refl

pub fault_is : (ws : List Text) → fault_of app ws ≡ fault_from table (walk_from nothing_held) ws
fault_is ws = go (walk (rules_for table) [] nothing_held ws).stopped
  where
    go : (stop : Option (Text × List Text))
        → level_fault (shape_for table) [] nothing_held ws (is_some (entered (built app) stop)) (Rattle.clap.specs.Faults.entered_fault (built app) stop)
        ≡ fault_from table (walk_from nothing_held) ws
    go None = refl
    go (Some p) = refl

pub rows_are : (ws : List Text) → matches_of app ws ≡ rows_from table (walk_from nothing_held) ws
rows_are ws = refl

-- ---- flags are set to `true`

abbrev FlagsTrue : Table → Settings → Type 0
FlagsTrue t [] = Unit {0}
FlagsTrue t (p ∷ said) = (takes_value t p.0 ≡ Some false → p.1 ≡ codes "true") × FlagsTrue t said

abbrev IfSaid : {X : Type 0} → (X → Type 0) → Option X → Type 0
IfSaid P None = Unit {0}
IfSaid P (Some x) = P x

abbrev Waits : Table → Option Text → Type 0
Waits t None = Unit {0}
Waits t (Some name) = takes_value t name ≡ Some true

abbrev Good : Table → State → Type 0
Good t s = Waits t s.0 × FlagsTrue t s.1

one_true : (t : Table) (said : Settings) (name v : Text) → (takes_value t name ≡ Some false → v ≡ codes "true") → FlagsTrue t said
    → FlagsTrue t (said ++ (name, v) ∷ [])
one_true t [] name v h f = (h, tt)
one_true t (p ∷ said) name v h f = (f.0, one_true t said name v h f.1)

set_good : (t : Table) (name v : Text) (said : Settings) → (takes_value t name ≡ Some false → v ≡ codes "true") → FlagsTrue t said
    → IfSaid (Good t) (set_to name v said)
set_good t name v said h f = go (has name said)
  where
    go : (b : Bool) → IfSaid (Good t) (option_map (λ s. (None, s)) (if b then None else Some (said ++ (name, v) ∷ [])))
    go true = tt
    go false = (tt, one_true t said name v h f)

not_flag : (o : Option Bool) → o ≡ Some true → (v : Text) → o ≡ Some false → v ≡ codes "true"
not_flag o a v b = absurd (true≢false (ap (λ x. Rattle.std.specs.Prelude.unwrap_or x false) (sym a ∙ b)))

named_good : (t : Table) (name : Text) (o : Option Bool) → takes_value t name ≡ o → (v : Option Text) (said : Settings) → FlagsTrue t said
    → IfSaid (Good t) (named_word name o v said)
named_good t name None is v said f = tt
named_good t name (Some true) is (Some v) said f = set_good t name v said (not_flag _ is v) f
named_good t name (Some true) is None said f = (is, f)
named_good t name (Some false) is (Some v) said f = tt
named_good t name (Some false) is None said f = set_good t name (codes "true") said (λ e. refl) f

step_good : (t : Table) (waiting : Option Text) (word : Text) (said : Settings) → Waits t waiting → FlagsTrue t said → IfSaid (Good t) (step t waiting word said)
step_good t (Some name) word said w f = go (begins_with_dash word)
  where
    go : (b : Bool) → IfSaid (Good t) (if b then None else set_to name word said)
    go true = tt
    go false = set_good t name word said (not_flag _ w word) f
step_good t None word said w f = go (after_dashes word)
  where
    go : (o : Option Text) → IfSaid (Good t) (option_and_then (λ rest. named_word (name_in rest) (takes_value t (name_in rest)) (value_in rest) said) o)
    go None = tt
    go (Some rest) = named_good t (name_in rest) (takes_value t (name_in rest)) refl (value_in rest) said f

and_good : (t : Table) (ws : List Text) (o : Option State) → IfSaid (Good t) o
    → ((waiting : Option Text) (said : Settings) → Waits t waiting → FlagsTrue t said → IfSaid (FlagsTrue t) (read_from t waiting said ws))
    → IfSaid (FlagsTrue t) (option_and_then (λ s. read_from t s.0 s.1 ws) o)
and_good t ws None g h = tt
and_good t ws (Some s) g h = h s.0 s.1 g.0 g.1

flags_true : (t : Table) (ws : List Text) (waiting : Option Text) (said : Settings) → Waits t waiting → FlagsTrue t said
    → IfSaid (FlagsTrue t) (read_from t waiting said ws)
unfolding read_from
flags_true t [] None said w f = f
flags_true t [] (Some name) said w f = tt
flags_true t (word ∷ ws) waiting said w f = and_good t ws (step t waiting word said) (step_good t waiting word said w f) (flags_true t ws)

-- ---- what the getters read

first_rows : (name : Text) (said : Settings) → first_of name (rows_for said) ≡ value_of name said
first_rows name [] = refl
first_rows name (p ∷ said) = go (bytes_eq p.0 name) refl (first_rows name said)
  where
    go : (b : Bool) → bytes_eq p.0 name ≡ b → first_of name (rows_for said) ≡ value_of name said → first_of name (rows_for (p ∷ said)) ≡ value_of name (p ∷ said)
    go true q below = rw q refl
    go false q below = rw q below

no_row : (name : Text) (rows : List Row) → has_row name rows ≡ false → find (λ r. bytes_eq r.id name) rows ≡ None
no_row name [] h = refl
no_row name (r ∷ rows) h = go (bytes_eq r.id name) refl (no_row name rows)
  where
    go : (b : Bool) → bytes_eq r.id name ≡ b → (has_row name rows ≡ false → find (λ r. bytes_eq r.id name) rows ≡ None)
        → find (λ r. bytes_eq r.id name) (r ∷ rows) ≡ None
    go true q below = absurd (true≢false (rw q at h))
    go false q below = rw q (below (rw q at h))

flag_text : (t : Table) (name : Text) → takes_value t name ≡ Some false → (said : Settings) → FlagsTrue t said → has name said ≡ true
    → one_of name (rows_for said) ≡ Some (codes "true")
flag_text t name is [] f h = absurd (true≢false (sym h))
flag_text t name is (p ∷ said) f h = go (bytes_eq p.0 name) refl (flag_text t name is said f.1)
  where
    go : (b : Bool) → bytes_eq p.0 name ≡ b → (has name said ≡ true → one_of name (rows_for said) ≡ Some (codes "true"))
        → one_of name (rows_for (p ∷ said)) ≡ Some (codes "true")
    go true q below = rw q (ap (λ v. Some v) (f.0 (ap (takes_value t) (same_bytes p.0 name q) ∙ is)))
    go false q below = rw q (below (rw q at h))

option_default : (name : Text) (rows : List Row) → with_default rows (rule_for name true) ≡ rows
option_default name rows = go (has_row name rows)
  where
    go : (b : Bool) → (if b then rows else rows) ≡ rows
    go true = refl
    go false = refl

abbrev default_row : Text → Row
default_row name = record { id = name; values = codes "false" ∷ []; count = None; source = Some DefaultValue; reading = reading.AsWritten }

abbrev default_for : Table → Text → Option Row
default_for [] name = None
default_for ((n, true) ∷ t) name = default_for t name
default_for ((n, false) ∷ t) name = if bytes_eq n name then Some (default_row n) else default_for t name

abbrev row_in : Text → List Row → Option Row
row_in name rows = find (λ r. bytes_eq r.id name) rows

or_nothing : {X : Type 0} (o : Option X) → option_or o None ≡ o
or_nothing None = refl
or_nothing (Some x) = refl

or_or : {X : Type 0} (o : Option X) (b : Bool) (x : X) (y : Option X) → option_or (option_or o (if b then Some x else None)) y ≡ option_or o (if b then Some x else y)
or_or (Some z) b x y = refl
or_or None true x y = refl
or_or None false x y = refl

row_found : (name : Text) (rows : List Row) (y : Option Row) → has_row name rows ≡ true → option_or (row_in name rows) y ≡ row_in name rows
row_found name [] y h = absurd (true≢false (sym h))
row_found name (r ∷ rows) y h = go (bytes_eq r.id name) refl (row_found name rows y)
  where
    go : (b : Bool) → bytes_eq r.id name ≡ b → (has_row name rows ≡ true → option_or (row_in name rows) y ≡ row_in name rows)
        → option_or (row_in name (r ∷ rows)) y ≡ row_in name (r ∷ rows)
    go true q below = rw q refl
    go false q below = rw q (below (rw q at h))

flag_once : (n name : Text) (rows : List Row)
    → row_in name (with_default rows (rule_for n false)) ≡ option_or (row_in name rows) (if bytes_eq n name then Some (default_row n) else None)
flag_once n name rows = go (has_row n rows) refl (bytes_eq n name) refl
  where
    go : (b : Bool) → has_row n rows ≡ b → (d : Bool) → bytes_eq n name ≡ d
        → row_in name (with_default rows (rule_for n false)) ≡ option_or (row_in name rows) (if bytes_eq n name then Some (default_row n) else None)
    go true q true e = rw q (sym (row_found name rows _ (subst (λ m. has_row m rows ≡ true) (same_bytes n name e) q)))
    go true q false e = rw (q, e) (sym (or_nothing _))
    go false q d e = rw q (ap (row_in name) (at_no_row n (more_values DefaultValue (codes "false" ∷ [])) (default_row n ∷ []) rows q)
        ∙ find-append (λ r. bytes_eq r.id name) rows (default_row n ∷ []))

finals : (t : Table) (name : Text) (rows : List Row)
    → row_in name (fold with_default rows (rules_for t)) ≡ option_or (row_in name rows) (default_for t name)
finals [] name rows = sym (or_nothing _)
finals ((n, true) ∷ t) name rows = ap (λ rs. row_in name (fold with_default rs (rules_for t))) (option_default n rows) ∙ finals t name rows
finals ((n, false) ∷ t) name rows = finals t name (with_default rows (rule_for n false))
    ∙ ap (λ o. option_or o (default_for t name)) (flag_once n name rows) ∙ or_or (row_in name rows) (bytes_eq n name) (default_row n) (default_for t name)

first_final : (t : Table) (name : Text) → default_for t name ≡ None → (said : Settings) → first_of name (final t said) ≡ value_of name said
first_final t name none said = ap (option_and_then (λ r. Rattle.std.specs.Prelude.slice_get r.values 0))
    (finals t name (rows_for said) ∙ ap (option_or (row_in name (rows_for said))) none ∙ or_nothing _) ∙ first_rows name said

flag_final : (t : Table) (name : Text) → takes_value t name ≡ Some false → (said : Settings) → FlagsTrue t said → has name said ≡ true
    → one_of name (final t said) ≡ Some (codes "true")
flag_final t name is said f q = ap (option_and_then row_text)
    (finals t name (rows_for said) ∙ row_found name (rows_for said) (default_for t name) (has_row_for name said ∙ q)) ∙ flag_text t name is said f q

flag_absent : (t : Table) (name : Text) → default_for t name ≡ Some (default_row name) → (said : Settings) → has name said ≡ false
    → one_of name (final t said) ≡ Some (codes "false")
flag_absent t name is said q = ap (option_and_then row_text)
    (finals t name (rows_for said) ∙ ap₂ option_or (no_row name (rows_for said) (has_row_for name said ∙ q)) is)

-- ---- together

pub untidy_none : (ws : List Text) → list_all is_tidy ws ≡ false → settings_of ws ≡ None
untidy_none ws h = untidy_refused table refl ws h None []

-- the words were refused, if clap fails for another cause than memory
pub refused_words : (ws : List Text) → list_all is_tidy ws ≡ true → (fault_of app ws ≡ [] → ⊥) → settings_of ws ≡ None
refused_words ws tidy faulty = go (settings_of ws) (as_defined table ws tidy)
  where
    go : (o : Option Settings) → Match table o (fault_from table (walk_from nothing_held) ws) (rows_from table (walk_from nothing_held) ws) → o ≡ None
    go None m = refl
    go (Some said) m = absurd (faulty (fault_is ws ∙ m.0))

same_said : (a b c d e f g v : Option Text) (p x : Bool) (h i j k l m n w : Option Text) (q y : Bool)
    → a ≡ h → b ≡ i → c ≡ j → d ≡ k → e ≡ l → f ≡ m → g ≡ n → v ≡ w → p ≡ q → x ≡ y
    → ◌≡◌ {A = Said} (record { only = a; include = b; exclude = c; non_volatile = d; pg_major = e; pg_minor = f; pg_patch = g; generate = v; assume_in_transaction = p; locks = x })
    (record { only = h; include = i; exclude = j; non_volatile = k; pg_major = l; pg_minor = m; pg_patch = n; generate = w; assume_in_transaction = q; locks = y })
same_said a b c d e f g v p x h i j k l m n w q y u0 u1 u2 u3 u4 u5 u6 u7 u8 u9 = rw (u0, u1, u2, u3, u4, u5, u6, u7, u8, u9) refl

-- what was found, if clap does not fail, is what is set
pub taken_words : (ws : List Text) (f : Found) (s : Said) → list_all is_tidy ws ≡ true → fault_of app ws ≡ [] → rows_of f ≡ matches_of app ws
    → IsGiven f s → Some s ≡ option_map said_in (settings_of ws)
taken_words ws f s tidy free rows got = go (settings_of ws) (as_defined table ws tidy) (flags_true table ws None [] tt tt)
  where
    go : (o : Option Settings) → Match table o (fault_from table (walk_from nothing_held) ws) (rows_from table (walk_from nothing_held) ws)
        → IfSaid (FlagsTrue table) o → Some s ≡ option_map said_in o
    go None m t = absurd (m (sym (fault_is ws) ∙ free))
    go (Some said) m t = ap (λ x. Some x) (same_said _ _ _ _ _ _ _ _ _ _ _ _ _ _ _ _ _ _ _ _
        (got.only ∙ text (codes "only") refl)
        (got.include ∙ text (codes "include") refl)
        (got.exclude ∙ text (codes "exclude") refl)
        (got.non_volatile ∙ text (codes "non-volatile") refl)
        (got.pg_major ∙ text (codes "pg-major") refl)
        (got.pg_minor ∙ text (codes "pg-minor") refl)
        (got.pg_patch ∙ text (codes "pg-patch") refl)
        (got.generate ∙ text (codes "generate") refl)
        (flag (codes "assume-in-transaction") refl refl s.assume_in_transaction got.assume_in_transaction)
        (flag (codes "locks") refl refl s.locks got.locks))
      where
        rows_final : rows_of f ≡ final table said
        rows_final = rows ∙ m.1

        text : (name : Text) → default_for table name ≡ None → first_value f name ≡ value_of name said
        text name none = first_value-rows f name ∙ ap (first_of name) rows_final ∙ first_final table name none said

        flag : (name : Text) → takes_value table name ≡ Some false → default_for table name ≡ Some (default_row name) → (b : Bool) → IsFlag f name b → b ≡ has name said
        flag name takes default b got = by (has name said) refl
          where
            by : (q : Bool) → has name said ≡ q → b ≡ has name said
            by true e = got.is_set (one_text-rows f name ∙ ap (one_of name) rows_final ∙ flag_final table name takes said t e) ∙ sym e
            by false e = got.not_set (one_text-rows f name ∙ ap (one_of name) rows_final ∙ flag_absent table name default said e) ∙ sym e
