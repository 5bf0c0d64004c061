use Rattle.law_edit_types.proofs.ColumnTypes.{column_type_exchanges}
use Rattle.law_edit_types.proofs.laws.columns_stay.Goals as goal

pub returns : goal.returns
returns c = column_type_exchanges
