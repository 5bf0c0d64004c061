use Rattle.law_printed_text.proofs.Uniqueness.{unique_texts}
use Rattle.law_printed_text.proofs.unique_texts.Goals as goal

pub returns : goal.returns
returns c = unique_texts
