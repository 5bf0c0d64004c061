use Rattle.memchr.proofs.lemmas.ValueLemmas.{FindsNeedle-value}
use Rattle.lsp_serve.proofs.Finding.{found_within}
use Rattle.lsp_serve.proofs.front.later_field.Goals as goal

pub returns : goal.returns
returns c = record {
  value = FindsNeedle-value _ _ c.find.result c.find.ensures;
  within = found_within _ _ c.find.result c.find.ensures;
}
