-- Values by spans of a text, which are identified by the names in them.
use Rattle.std.specs.Prelude.{◌≡◌, ℕ, Bool, true, nat_eq, List, [], ◌∷◌, ◌++◌, Option, Some, None, if◌then◌else◌}
use Rattle.std.specs.Map.{lookup}
use Rattle.std.specs.Option.{option_map, option_or}
use Rattle.sql_tree.specs.sql_token.declared.token.Span.{Span}
use Rattle.sql_tree.specs.Statement.{Tree}
use Rattle.lint_transaction.specs.Transaction.{same_path}
use Rattle.lint_transaction.specs.Events.{last_event}
use Rattle.lint_transaction.specs.SpanKey.{key_of, hash_of}
use Rattle.lint_transaction.specs.declared.span_map.Kept.{Kept}
use Rattle.lint_transaction.specs.declared.span_key.SpanKey.{SpanKey}

-- a map: a span for each hash, and the spans that are compared one by one
pub record Values (V : Type 0) : Type 0 where
  pub key : SpanKey
  pub hashed : List (ℕ × Kept V)
  pub others : List (Kept V)

-- the value is kept for these names
abbrev pub is_for : {V : Type 0} → SpanKey → Tree → List (List ℕ) → Kept V → Bool
is_for key tree names kept = same_path names (key_of key tree kept.span)

abbrev pub value_if : {V : Type 0} → SpanKey → Tree → List (List ℕ) → Option (Kept V) → Option V
value_if key tree names None = None
value_if key tree names (Some kept) = if is_for key tree names kept then Some kept.value else None

abbrev pub hashed_value : {V : Type 0} → Tree → Values V → List (List ℕ) → Option V
hashed_value tree map names = value_if map.key tree names (lookup (nat_eq (hash_of names)) map.hashed)

abbrev pub other_value : {V : Type 0} → Tree → Values V → List (List ℕ) → Option V
other_value tree map names = option_map (λ kept. kept.value) (last_event (is_for map.key tree names) map.others)

-- the value that was put last for these names
unfoldable pub get_span : {V : Type 0} → Tree → Values V → List (List ℕ) → Option V
get_span tree map names = option_or (hashed_value tree map names) (other_value tree map names)

-- nothing else is kept at the place of a hash
abbrev pub is_free : {V : Type 0} → Tree → SpanKey → List (List ℕ) → Option (Kept V) → Bool
is_free tree key names None = true
is_free tree key names (Some kept) = is_for key tree names kept

-- the map with one more value among those that are compared one by one
pub record Lists {V : Type 0} (old new : Values V) (span : Span) (value : V) : Type 0 where
  pub key : new.key ≡ old.key
  pub hashed : new.hashed ≡ old.hashed
  pub others : new.others ≡ old.others ++ record { span = span; value = value } ∷ []

-- the map with the value at the place of its hash
pub record Writes {V : Type 0} (old new : Values V) (hash : ℕ) (span : Span) (value : V) : Type 0 where
  pub key : new.key ≡ old.key
  pub hashed : (q : ℕ) → lookup (nat_eq q) new.hashed ≡ (if nat_eq hash q then Some (record { span = span; value = value }) else lookup (nat_eq q) old.hashed)
  pub others : new.others ≡ old.others
