-- A part of a call that guests don't see: the image is sound again, the guest sees what it saw, and a stop is as safe as before.
use Rattle.std.proofs.Common.{◌≡◌, ◌+◌, ◌-◌, ℕ, List, ap, ◌∙◌, arith, Option}
use Rattle.qcow2_image.proofs.Common.{fun_ext, BackingView, StorageView, count, named, Pending, DriverState, StateInvariant, named-is, own_data_of, Sizes-from, for_tables-top, IsTop-top, Qcow2, Prepared, of_data, of_tables, to_free, new_data_by, over_all, pending_in, state_in, Mappings}
pub use Rattle.qcow2_alloc.proofs.Freeing.{free_more}

-- ---- what is pending

-- what is counted more than named and pending is the surplus
pub surplus_is : (s : DriverState) → StateInvariant s → s.header.incompatible ≡ 0 → (k : ℕ)
    → s.pending.surplus k ≡ count s.header s.known k - (named s.header s.known k + s.pending.new_data k + s.pending.new_tables k + s.pending.old_tables k + s.pending.old_data k)
surplus_is s sound inside k =
    let sizes = Sizes-from s.header s.known (IsTop-top s.header s.on_storage s.known sound.same_top sound.top).header_reads in
    let named = named-is s.header s.known k sizes (own_data_of s.header inside) in
    let table_refs = for_tables-top s.header s.on_storage s.known k sound.same_top in
    let tally = (sound.each_cluster k).tally in
    omega arith

same_pending : (p q : Pending) → p.new_data ≡ q.new_data → p.new_tables ≡ q.new_tables → p.old_tables ≡ q.old_tables → p.old_data ≡ q.old_data → p.surplus ≡ q.surplus → p ≡ q
same_pending p q new_data new_tables old_tables old_data surplus =
    ap (λ f. record p { new_data = f }) new_data ∙ ap (λ f. record p { new_data = q.new_data; new_tables = f }) new_tables ∙ ap (λ f. record p { new_data = q.new_data; new_tables = q.new_tables; old_tables = f }) old_tables
    ∙ ap (λ f. record p { new_data = q.new_data; new_tables = q.new_tables; old_tables = q.old_tables; old_data = f }) old_data ∙ ap (λ f. record q { surplus = f }) surplus

module _ {S F : Type 0} (view : S → StorageView) (backing : F → BackingView) (image : Qcow2 S F) (out : Mappings) (p : Pending) where
  -- only this is pending
  pub record IsOnly : Type 0 where
    pub new_data : (k : ℕ) → p.new_data k ≡ over_all new_data_by out k
    pub new_tables : (k : ℕ) → p.new_tables k ≡ 0
    pub old_tables : (k : ℕ) → p.old_tables k ≡ to_free of_tables image.file.free_list k
    pub old_data : (k : ℕ) → p.old_data k ≡ to_free of_data image.file.free_list k

  pub pending_is : StateInvariant (state_in view image.file p) → image.file.header.fields.incompatible ≡ 0 → IsOnly → p ≡ pending_in view backing image out
  pending_is sound inside only = same_pending p (pending_in view backing image out) (fun_ext only.new_data) (fun_ext only.new_tables) (fun_ext only.old_tables) (fun_ext only.old_data)
      (fun_ext (λ k. surplus_is (state_in view image.file p) sound inside k ∙ (let new_data = only.new_data k in let new_tables = only.new_tables k in let old_tables = only.old_tables k in let old_data = only.old_data k in omega arith)))
