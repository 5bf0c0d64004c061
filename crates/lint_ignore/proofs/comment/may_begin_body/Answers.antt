use Rattle.std.proofs.Common.{◌∙◌, List, ℕ, subst, sym}
use Rattle.memchr.specs.Find.{FindsNeedle}
use Rattle.lint_ignore.proofs.Silent.{silent_where_none}
use Rattle.lint_ignore.proofs.comment.may_begin_body.Goals as goal

pub returns : goal.returns
returns c none =
    let P : List ℕ → Type 0 = λ words. FindsNeedle c.as_bytes.result.now words 0 c.find.result in
    silent_where_none c.args.p.now c.as_bytes.result.now c.args.words.now c.find.result c.text.ensures.tree c.as_bytes.ensures.utf8 (c.as_bytes.ensures.value ∙ c.text.ensures.value) (subst P c.as_bytes-2.ensures.value c.find.ensures) (sym c.is_some.ensures ∙ none)
