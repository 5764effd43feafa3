-- Calls one after another, as a read or a write of several parts makes them, and the moments on the way, each of which is built here.
use Rattle.std.proofs.Common.{arith, ◌≡◌, ◌⊎◌, ℕ, List, IsTrue, sym, ap, ◌∙◌, subst}
use Rattle.qcow2_disk.proofs.Common.{StorageView, EachMomentSince, passes_none, passes_if, passes_on, Bytes, byte_at, Value, disk, disk_with, GivenBytes, IsGiven, Checkpoint, checkpoint_with, StopOkEverywhere, SafeThroughout, LeavesKept, Setting, AbstractImage, stored_bytes, guest_of, StartsAt, Stops, EffectOnSound, EffectOnFailed}
use Rattle.qcow2_disk.specs.UngivenCovers.{IsUngiven}
use Rattle.qcow2_disk.proofs.Stops.{given_more, given_front, given_split, kept_more, kept_twice}

-- ---- where a stop may find an image, for each step of a call

-- nothing is written, and what is known stays
pub stops_none : (old new : AbstractImage) (gs : List GivenBytes) (asked : List ℕ) → new.storage ≡ old.storage → (new.is_sound → new.known ≡ old.known) → (m : Checkpoint) → StartsAt old m → Stops old new gs asked m
stops_none old new gs asked same known m starts =
    record {
      moments = subst (λ (v : StorageView). EachMomentSince old.storage v (λ c. StopOkEverywhere old.setting.backing (checkpoint_with gs asked m) (byte_at c))) (sym same) (passes_none old.storage _);
      contents = subst (λ (v : StorageView). LeavesKept old.setting.backing (checkpoint_with gs asked m) v) (sym same) (kept_more old.setting.backing gs asked m (stored_bytes old) starts.0);
      known = λ h. subst (λ b. StopOkEverywhere old.setting.backing (checkpoint_with gs asked m) b) (sym (known h)) (kept_more old.setting.backing gs asked m old.known starts.1);
    }

-- by what is safe at each moment of its storage since, and by what is known in the end
pub stops_of : (old new : AbstractImage) (given : Bytes → List GivenBytes) (asked : List ℕ) → SafeThroughout old.storage new.storage old.known given asked
    → (new.is_sound → (backing : Bytes) (m : Checkpoint) → LeavesKept backing m old.storage → StopOkEverywhere backing m old.known → StopOkEverywhere backing (checkpoint_with (given backing) asked m) new.known)
    → (m : Checkpoint) → StartsAt old m → Stops old new (given old.setting.backing) asked m
stops_of old new given asked since known m starts =
    let backing = old.setting.backing in
    record {
      moments = passes_if (λ c. StopOkEverywhere backing (checkpoint_with (given backing) asked m) (byte_at c)) (λ c kept. kept backing m starts.0 starts.1) since.moments;
      contents = since.contents backing m starts.0 starts.1;
      known = λ h. known h backing m starts.0 starts.1;
    }

-- the same of an image on the same storage, which is sound only where this one is
pub stops_as : (old new old' new' : AbstractImage) (gs : List GivenBytes) (asked : List ℕ) → old'.setting ≡ old.setting → old'.storage ≡ old.storage → new'.storage ≡ new.storage → (new'.is_sound → new.is_sound × (new'.known ≡ new.known))
    → (m : Checkpoint) → Stops old new gs asked m → Stops old' new' gs asked m
stops_as old new old' new' gs asked setting from to still m s = grind arith

-- with other gifts, or more that is asked for
pub stops_less : (old new : AbstractImage) (gs gs' : List GivenBytes) (asked asked' : List ℕ) (m : Checkpoint)
    → ((b : Bytes) → StopOkEverywhere old.setting.backing (checkpoint_with gs asked m) b → StopOkEverywhere old.setting.backing (checkpoint_with gs' asked' m) b) → Stops old new gs asked m → Stops old new gs' asked' m
stops_less old new gs gs' asked asked' m weaker s = record {
  moments = passes_if (λ c. StopOkEverywhere old.setting.backing (checkpoint_with gs' asked' m) (byte_at c)) (λ c k. weaker (byte_at c) k) s.moments;
  contents = weaker (stored_bytes new) s.contents;
  known = λ h. weaker new.known (s.known h);
}

-- a failed image writes nothing more
pub stops_resting : (old mid new : AbstractImage) (gs : List GivenBytes) (asked : List ℕ) → EffectOnFailed mid new → (new.is_sound → ⊥) → (m : Checkpoint) → Stops old mid gs asked m → Stops old new gs asked m
stops_resting old mid new gs asked rests never m s = grind arith

-- a failed image on the same storage
pub rests_none : (old new : AbstractImage) → new.setting ≡ old.setting → new.storage ≡ old.storage → IsTrue new.is_failed → new.leaked ≡ old.leaked → EffectOnFailed old new
rests_none old new setting same failed leaks = grind arith

-- ---- calls

-- what a guest sees of an image that has its data itself
pub shown_is : (v : AbstractImage) → v.data_bytes ≡ v.known → (guest_of v).disk ≡ disk v.known v.setting.backing
shown_is v in_image = ap (λ (k : Bytes). disk_with v.known k v.setting.backing) in_image

module _ (v : AbstractImage) (gs fewer : List GivenBytes) (asked : List ℕ) (within : (o : ℕ) (w : Value) → IsGiven gs o w → (w ≡ (disk v.known v.setting.backing).value o) ⊎ IsGiven fewer o w) (m : Checkpoint)
    (known : StopOkEverywhere v.setting.backing m v.known) where
  kept_less : (b : Bytes) → StopOkEverywhere v.setting.backing (checkpoint_with gs asked m) b → StopOkEverywhere v.setting.backing (checkpoint_with fewer asked m) b
  kept_less b k = grind (arith, given_more, given_front, given_split)

-- a guest cluster of which no byte of these gifts is, has none of those
abbrev pub TouchesLess : ℕ → (gs fewer : List GivenBytes) → Type 0
TouchesLess size_of_cluster gs fewer = (g : ℕ) → IsUngiven size_of_cluster fewer g → IsUngiven size_of_cluster gs g

-- a call that gives only what is there already or is one of fewer gifts, which touch no fewer guest clusters, gives those
pub works_less : (old new : AbstractImage) (gs fewer : List GivenBytes) (asked : List ℕ) → ((o : ℕ) (w : Value) → IsGiven gs o w → (w ≡ (disk old.known old.setting.backing).value o) ⊎ IsGiven fewer o w)
    → TouchesLess old.setting.cluster_size gs fewer → EffectOnSound old new gs asked → EffectOnSound old new fewer asked
works_less old new gs fewer asked within touches w = record {
  setting = w.setting;
  surplus = w.surplus;
  beside = λ h g untouched. w.beside h g (touches g untouched);
  leaks = w.leaks;
  stops = λ m starts. stops_less old new gs fewer asked asked m (kept_less old gs fewer asked within m starts.1) (w.stops m starts);
}

-- two calls that give the same
pub works_then : (old mid new : AbstractImage) (gs : List GivenBytes) (asked : List ℕ) → mid.is_sound → EffectOnSound old mid gs asked → EffectOnSound mid new gs asked → EffectOnSound old new gs asked
works_then old mid new gs asked there a b =
    let same : mid.setting.backing ≡ old.setting.backing = ap (λ (y : Setting). y.backing) a.setting in
    record {
      setting = b.setting ∙ a.setting;
      surplus = λ h. b.surplus h ∙ a.surplus there;
      beside = λ h g untouched. a.beside there g untouched ∙ b.beside h g (subst (λ (y : Setting). IsUngiven y.cluster_size gs g) (sym a.setting) untouched);
      leaks = b.leaks ∙ a.leaks;
      stops = λ m starts.
          let f = a.stops m starts in
          let l = b.stops (checkpoint_with gs asked m) (subst (λ k. LeavesKept k (checkpoint_with gs asked m) mid.storage) (sym same) f.contents, subst (λ k. StopOkEverywhere k (checkpoint_with gs asked m) mid.known) (sym same) (f.known there)) in
          record {
            moments = passes_on (λ c. StopOkEverywhere old.setting.backing (checkpoint_with gs asked m) (byte_at c)) f.moments l.moments
                (λ c k. kept_twice old.setting.backing gs asked m (byte_at c) (subst (λ q. StopOkEverywhere q (checkpoint_with gs asked (checkpoint_with gs asked m)) (byte_at c)) same k));
            contents = kept_twice old.setting.backing gs asked m (stored_bytes new) (subst (λ q. LeavesKept q (checkpoint_with gs asked (checkpoint_with gs asked m)) new.storage) same l.contents);
            known = λ h. kept_twice old.setting.backing gs asked m new.known (subst (λ q. StopOkEverywhere q (checkpoint_with gs asked (checkpoint_with gs asked m)) new.known) same (l.known h));
          };
    }

pub rests_then : (old mid new : AbstractImage) → EffectOnFailed old mid → EffectOnFailed mid new → EffectOnFailed old new
rests_then old mid new a b = grind arith
