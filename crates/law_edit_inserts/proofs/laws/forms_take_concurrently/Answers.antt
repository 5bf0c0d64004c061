use Rattle.law_edit_inserts.proofs.Detaches.{detach_concurrently}
use Rattle.law_edit_inserts.proofs.Indexes.{create_index_concurrently, create_unique_index_concurrently, drop_index_concurrently}
use Rattle.law_edit_inserts.proofs.Reindexes.{reindex_concurrently, reindex_options_concurrently}
use Rattle.law_edit_inserts.proofs.laws.forms_take_concurrently.Goals as goal

pub returns-clause-create_index : goal.returns-clause-create_index
returns-clause-create_index c = create_index_concurrently

pub returns-clause-create_unique_index : goal.returns-clause-create_unique_index
returns-clause-create_unique_index c = create_unique_index_concurrently

pub returns-clause-drop_index : goal.returns-clause-drop_index
returns-clause-drop_index c = drop_index_concurrently

pub returns-clause-reindex : goal.returns-clause-reindex
returns-clause-reindex c = reindex_concurrently

pub returns-clause-reindex_options : goal.returns-clause-reindex_options
returns-clause-reindex_options c = reindex_options_concurrently

pub returns-clause-detach : goal.returns-clause-detach
returns-clause-detach c = detach_concurrently
