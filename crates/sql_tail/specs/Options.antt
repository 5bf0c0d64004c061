-- What an option is tested for.
use Rattle.std.specs.Prelude.{Bool, List}
use Rattle.sql_token.specs.declared.terminal.Terminal.{Terminal}
use Rattle.sql_tree.specs.Tails.{is_concurrent, is_valued, is_full}
use Rattle.sql_tail.specs.declared.options.OptionTest.{OptionTest}
use Rattle.sql_tail.specs.declared.options.OptionTest.TheVariants as test

abbrev pub test_of : OptionTest → List Terminal → Bool
test_of test.Concurrent = is_concurrent
test_of test.Valued = is_valued
test_of test.Full = is_full
