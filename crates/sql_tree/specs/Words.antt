-- Classes of words (PostgreSQL manual, ALTER SEQUENCE and ALTER FUNCTION).
use Rattle.std.specs.Prelude.{Bool, true, false}
use Rattle.sql_token.specs.sql_keyword.declared.words.Keyword.{Keyword}
use Rattle.sql_token.specs.sql_keyword.declared.words.Keyword.TheVariants as k
use Rattle.sql_token.specs.sql_keyword.declared.words.Verb.TheVariants as verbs
use Rattle.sql_token.specs.sql_keyword.declared.words.Object.TheVariants as objects
use Rattle.sql_token.specs.sql_keyword.declared.words.Other.TheVariants as others
use Rattle.sql_token.specs.declared.terminal.Symbol.{Symbol}
use Rattle.sql_token.specs.declared.terminal.Symbol.TheVariants as s
use Rattle.sql_token.specs.declared.terminal.Terminal.{Terminal}
use Rattle.sql_tree.specs.declared.forms.WordClass.{WordClass}
use Rattle.sql_tree.specs.declared.forms.WordClass.TheVariants as class

abbrev pub is_sequence_word : Keyword → Bool
is_sequence_word (k.Other others.Restart) = true
is_sequence_word (k.Other others.Increment) = true
is_sequence_word (k.Other others.Minvalue) = true
is_sequence_word (k.Other others.Maxvalue) = true
is_sequence_word (k.Verb verbs.Start) = true
is_sequence_word (k.Other others.Cache) = true
is_sequence_word (k.Other others.Cycle) = true
is_sequence_word (k.Other others.As) = true
is_sequence_word (k.Other others.Owned) = true
is_sequence_word (k.Verb verbs.Set) = true
is_sequence_word (k.Object objects.Sequence) = true
is_sequence_word (k.Other others.No) = true
is_sequence_word _ = false

abbrev pub is_function_word : Keyword → Bool
is_function_word (k.Other others.Called) = true
is_function_word (k.Other others.Returns) = true
is_function_word (k.Other others.Strict) = true
is_function_word (k.Other others.Immutable) = true
is_function_word (k.Other others.Stable) = true
is_function_word (k.Other others.Volatile) = true
is_function_word (k.Other others.Not) = true
is_function_word (k.Other others.Leakproof) = true
is_function_word (k.Other others.External) = true
is_function_word (k.Other others.Security) = true
is_function_word (k.Other others.Parallel) = true
is_function_word (k.Other others.Cost) = true
is_function_word (k.Other others.Rows) = true
is_function_word (k.Other others.Support) = true
is_function_word (k.Verb verbs.Set) = true
is_function_word (k.Verb verbs.Reset) = true
is_function_word _ = false

abbrev pub is_class_word : WordClass → Keyword → Bool
is_class_word class.SequenceOption w = is_sequence_word w
is_class_word class.FunctionOption w = is_function_word w

abbrev pub is_class_symbol : WordClass → Symbol → Bool
is_class_symbol c (s.Keyword w) = is_class_word c w
is_class_symbol c _ = false

unfoldable pub is_of_class : WordClass → Terminal → Bool
is_of_class c t = is_class_symbol c t.symbol
