use Rattle.law_edit_inserts.proofs.ActionPlaces.{action_shows}
use Rattle.law_edit_inserts.proofs.AlterShapes.{alter_table_shows}
use Rattle.law_edit_inserts.proofs.Detaches.{detach_shows}
use Rattle.law_edit_inserts.proofs.DropShapes.{drop_index_shows}
use Rattle.law_edit_inserts.proofs.IndexShapes.{create_index_shows}
use Rattle.law_edit_inserts.proofs.ReindexShapes.{reindex_shows}
use Rattle.law_edit_inserts.proofs.laws.bodies_show.Goals as goal

pub returns-clause-create_index : goal.returns-clause-create_index
returns-clause-create_index c = create_index_shows

pub returns-clause-drop_index : goal.returns-clause-drop_index
returns-clause-drop_index c = drop_index_shows

pub returns-clause-reindex : goal.returns-clause-reindex
returns-clause-reindex c = reindex_shows

pub returns-clause-alter_table : goal.returns-clause-alter_table
returns-clause-alter_table c = alter_table_shows

pub returns-clause-action : goal.returns-clause-action
returns-clause-action c = action_shows

pub returns-clause-detach : goal.returns-clause-detach
returns-clause-detach c = detach_shows
