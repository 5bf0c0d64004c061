pub use Rattle.lint_base.specs as lint_base
