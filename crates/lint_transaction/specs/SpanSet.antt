-- Sets of spans of a text, which are identified by the names in them.
use Rattle.std.specs.Prelude.{◌≡◌, ℕ, Bool, false, ◌&&◌, ◌||◌, nat_eq, List, [], ◌∷◌, ◌++◌, Option, Some, None, is_none, if◌then◌else◌}
use Rattle.std.specs.List.{list_any}
use Rattle.std.specs.Map.{lookup}
use Rattle.sql_tree.specs.sql_token.declared.token.Span.{Span}
use Rattle.sql_tree.specs.Statement.{Tree}
use Rattle.lint_transaction.specs.SpanKey.{key_of, hash_of}
use Rattle.lint_transaction.specs.Transaction.{same_path}
use Rattle.lint_transaction.specs.declared.span_key.SpanKey.{SpanKey}

-- a set: a span for each hash, and the spans that are compared one by one
pub record Spans : Type 0 where
  pub key : SpanKey
  pub hashed : List (ℕ × Span)
  pub others : List Span

-- the span is one with these names
abbrev pub has_names : SpanKey → Tree → List (List ℕ) → Span → Bool
has_names key tree names span = same_path names (key_of key tree span)

abbrev pub is_some_named : SpanKey → Tree → List (List ℕ) → Option Span → Bool
is_some_named key tree names None = false
is_some_named key tree names (Some span) = has_names key tree names span

abbrev pub is_hashed : Tree → Spans → List (List ℕ) → Bool
is_hashed tree set names = is_some_named set.key tree names (lookup (nat_eq (hash_of names)) set.hashed)

abbrev pub is_other : Tree → Spans → List (List ℕ) → Bool
is_other tree set names = list_any (has_names set.key tree names) set.others

-- some span of the set has these names
unfoldable pub has_span : Tree → Spans → List (List ℕ) → Bool
has_span tree set names = is_hashed tree set names || is_other tree set names

-- the set with one more span, whose hash this is
pub record PutsSpan (old new : Spans) (hash : ℕ) (span : Span) : Type 0 where
  pub key : new.key ≡ old.key
  pub hashed : (q : ℕ) → lookup (nat_eq q) new.hashed ≡ (if nat_eq hash q && is_none (lookup (nat_eq hash) old.hashed) then Some span else lookup (nat_eq q) old.hashed)
  pub others : new.others ≡ (if is_none (lookup (nat_eq hash) old.hashed) then old.others else old.others ++ span ∷ [])

-- the set with one more span among those that are compared one by one
pub record ListsSpan (old new : Spans) (span : Span) : Type 0 where
  pub key : new.key ≡ old.key
  pub hashed : new.hashed ≡ old.hashed
  pub others : new.others ≡ old.others ++ span ∷ []
