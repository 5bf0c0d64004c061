use Rattle.sql_read.proofs.OneAnswer.{valid_answer, unterminated_answer, syntax_answer}
use Rattle.sql_read.proofs.reading.parse.Goals as goal

pub returns-clause-valid : goal.returns-clause-valid
returns-clause-valid c = valid_answer c.args.text.now c.read_text.result c.read_text.ensures.ok c.read_text.ensures.err

pub returns-clause-unterminated : goal.returns-clause-unterminated
returns-clause-unterminated c =
    unterminated_answer c.args.text.now c.read_text.result c.read_text.ensures.ok c.read_text.ensures.err

pub returns-clause-syntax : goal.returns-clause-syntax
returns-clause-syntax c = syntax_answer c.args.text.now c.read_text.result c.read_text.ensures.ok c.read_text.ensures.err
