-- The command's rules by the table, and the rows by the settings.
use Rattle.std.proofs.Common.{◌≡◌, ◌==◌, ◌||◌, ◌⊎◌, Bool, true, false, refl, sym, ap, arith, inl, inr, true≢false, List, [], ◌∷◌, ◌++◌, map, Some, None, option_map, codes, if◌then◌else◌}
use Rattle.std.specs.Str.{bytes_eq}
use Rattle.std.proofs.lemmas.Slice.Eq.{bytes_eq-Decides}
use Rattle.clap.specs.Lexer.{long_of, short_of}
use Rattle.clap.specs.Walk.{Row, Rule, arg_by_id, arg_by_long, at_row, has_row}
use Rattle.clap.specs.Simple.{Shape, new_rule, new_shape}
use Rattle.clap.specs.declared.builder.action.ArgAction.TheVariants.{Set, SetTrue}
use Rattle.clap.specs.declared.builder.value_parser.ValueParser.TheVariants as vp
use Rattle.clap.specs.declared.builder.value_parser.Reading.TheVariants as reading
use Rattle.clap.specs.declared.parser.matches.ValueSource.TheVariants.{CommandLine}
use Rattle.squawk_words.specs.Command.{is_tidy}
use Rattle.squawk_words.specs.Words.{Settings, Table, Text, after_dashes, begins_with_dash, has, name_in, takes_value, value_in}

-- ---- what a tidy word is

abbrev pub two_dashes : Text
two_dashes = 45 ∷ 45 ∷ []

pub record IsLong (word : Text) : Type 0 where
  pub rest : Text
  pub dashes : after_dashes word ≡ Some rest
  pub long : long_of word ≡ Some (name_in rest, value_in rest)
  pub begins : begins_with_dash word ≡ true
  pub more : bytes_eq word two_dashes ≡ false

pub record IsPlainWord (word : Text) : Type 0 where
  pub dashes : after_dashes word ≡ None
  pub long : long_of word ≡ None
  pub short : short_of word ≡ None
  pub begins : begins_with_dash word ≡ false
  pub more : bytes_eq word two_dashes ≡ false

pub long_or_plain : (word : Text) → is_tidy word ≡ true → IsLong word ⊎ IsPlainWord word
long_or_plain [] h = inr (record { dashes = refl; long = refl; short = refl; begins = refl; more = refl })
long_or_plain (x ∷ []) h = go (x == 45) refl
  where
    go : (b : Bool) → (x == 45) ≡ b → IsLong (x ∷ []) ⊎ IsPlainWord (x ∷ [])
    go true e = absurd (true≢false (sym (rw e at h)))
    go false e = inr (record { dashes = refl; long = rw e; short = rw e; begins = e; more = rw e })
long_or_plain (x ∷ y ∷ []) h = go (x == 45) refl
  where
    go : (b : Bool) → (x == 45) ≡ b → IsLong (x ∷ y ∷ []) ⊎ IsPlainWord (x ∷ y ∷ [])
    go true e = absurd (true≢false (sym (rw e at h)))
    go false e = inr (record { dashes = rw e; long = rw e; short = rw e; begins = e; more = rw e })
long_or_plain (x ∷ y ∷ z ∷ rest) h = go (x == 45) refl
  where
    go : (b : Bool) → (x == 45) ≡ b → IsLong (x ∷ y ∷ z ∷ rest) ⊎ IsPlainWord (x ∷ y ∷ z ∷ rest)
    go true e = let f : (y == 45) ≡ true = rw e at h in inl (record { rest = z ∷ rest; dashes = rw (e, f); long = rw (e, f); begins = e; more = rw (e, f) })
    go false e = inr (record { dashes = rw e; long = rw e; short = rw e; begins = e; more = rw e })

-- ---- the rules of a table

abbrev pub rule_for : Text → Bool → Rule
rule_for name takes = record (new_rule name) {
  long = Some name;
  action = Some (if takes then Set else SetTrue);
  range = Some (if takes then (record { start_inclusive = 1; end_inclusive = 1 }) else (record { start_inclusive = 0; end_inclusive = 0 }));
  defaults = if takes then [] else codes "false" ∷ [];
  missing = if takes then [] else codes "true" ∷ [];
  parser = Some (if takes then vp.String else vp.Bool);
}

abbrev pub rules_for : Table → List Rule
rules_for = map (λ e. rule_for e.0 e.1)

abbrev pub shape_for : Table → Shape
shape_for names = record (new_shape (codes "squawk")) {
  rules = rules_for names;
  no_binary_name = true;
  disable_help_flag = true;
  disable_help_subcommand = true;
  is_built = true;
}

pub same_bytes : (a b : Text) → bytes_eq a b ≡ true → a ≡ b
same_bytes a b h = grind (arith, bytes_eq-Decides)

pub bytes_refl : (a : Text) → bytes_eq a a ≡ true
bytes_refl a = grind (arith, bytes_eq-Decides)

pub by_long : (names : Table) (name : Text) → arg_by_long (rules_for names) name ≡ option_map (rule_for name) (takes_value names name)
by_long [] name = refl
by_long (e ∷ names) name = go (bytes_eq e.0 name) refl (by_long names name)
  where
    go : (b : Bool) → bytes_eq e.0 name ≡ b → arg_by_long (rules_for names) name ≡ option_map (rule_for name) (takes_value names name)
        → arg_by_long (rules_for (e ∷ names)) name ≡ option_map (rule_for name) (takes_value (e ∷ names) name)
    go true q below = rw q (ap (λ n. Some (rule_for n e.1)) (same_bytes e.0 name q))
    go false q below = rw q below

pub by_id : (names : Table) (name : Text) → arg_by_id (rules_for names) name ≡ option_map (rule_for name) (takes_value names name)
by_id [] name = refl
by_id (e ∷ names) name = go (bytes_eq e.0 name) refl (by_id names name)
  where
    go : (b : Bool) → bytes_eq e.0 name ≡ b → arg_by_id (rules_for names) name ≡ option_map (rule_for name) (takes_value names name)
        → arg_by_id (rules_for (e ∷ names)) name ≡ option_map (rule_for name) (takes_value (e ∷ names) name)
    go true q below = rw q (ap (λ n. Some (rule_for n e.1)) (same_bytes e.0 name q))
    go false q below = rw q below

-- ---- the rows of what was set

abbrev pub row_for : Text × Text → Row
row_for p = record { id = p.0; values = p.1 ∷ []; count = None; source = Some CommandLine; reading = reading.AsWritten }

abbrev pub rows_for : Settings → List Row
rows_for = map row_for

pub has_row_for : (name : Text) (said : Settings) → has_row name (rows_for said) ≡ has name said
has_row_for name [] = refl
has_row_for name (p ∷ said) = ap (λ b. bytes_eq p.0 name || b) (has_row_for name said)

pub at_no_row : (id : Text) (change : Row → List Row) (missing rows : List Row) → has_row id rows ≡ false → at_row id change missing rows ≡ rows ++ missing
at_no_row id change missing [] h = refl
at_no_row id change missing (r ∷ rows) h = go (bytes_eq r.id id) refl (at_no_row id change missing rows)
  where
    go : (b : Bool) → bytes_eq r.id id ≡ b → (has_row id rows ≡ false → at_row id change missing rows ≡ rows ++ missing)
        → at_row id change missing (r ∷ rows) ≡ (r ∷ rows) ++ missing
    go true q below = absurd (true≢false (rw q at h))
    go false q below = rw q (ap (λ rs. r ∷ rs) (below (rw q at h)))
