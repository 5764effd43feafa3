-- Everything is written that must be on the storage before an L1 entry names a new table.
use Rattle.qcow2_image.proofs.Common.{List, Option, Result, Ok, Err, OnOk, BackingView, StorageView, AreClean, BlocksMayGo, Pending, ImageError, order_of, l2_tables, refblocks, Qcow2, Prepared, Stores, InternalStep, Mappings}

module _ {S F : Type 0} (view : S → StorageView) (backing : F → BackingView) (old new : Qcow2 S F) (out : Mappings) (p : Pending) (keeps : InternalStep view backing p p old new out) where
  pub stores_counts : (r : Result (Unit {0}) ImageError) → OnOk r (AreClean (refblocks new.file.caches)) → OnOk r (BlocksMayGo (order_of new.file.caches) (l2_tables new.file.caches)) → Stores view backing p old new out r
  stores_counts (Ok x) counts first = (keeps, record { counts = counts; first = first })
  stores_counts (Err e) counts first = keeps
