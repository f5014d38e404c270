use Rattle.es_catalog.proofs.Changed.{created, deleted, document_put, document_deleted}
use Rattle.es_catalog.proofs.catalog.Catalog.with.Goals as goal

pub returns-in_ok-share-in-CreateIndex : goal.returns-in_ok-share-in-CreateIndex
returns-in_ok-share-in-CreateIndex c = created c.with_index.result c.args.self.now c.args.number c.args.change.now _ _ _ _ c.in-CreateIndex.is c.in_ok-share-in-CreateIndex.ensures c.new.ensures c.with_index.ensures

pub returns-in-DeleteIndex : goal.returns-in-DeleteIndex
returns-in-DeleteIndex c = deleted c.without_index.result c.args.self.now c.args.number c.args.change.now _ _ c.in-DeleteIndex.is c.text.ensures c.without_index.ensures

pub returns-in-Put : goal.returns-in-Put
returns-in-Put c = document_put c.put.result c.args.self.now c.args.number c.args.change.now _ _ _ c.in-Put.is c.put.ensures

pub returns-in-Delete : goal.returns-in-Delete
returns-in-Delete c = document_deleted c.delete.result c.args.self.now c.args.number c.args.change.now _ _ _ c.in-Delete.is c.text-in-Delete.ensures c.delete.ensures
