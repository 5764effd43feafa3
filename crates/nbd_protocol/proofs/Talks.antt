-- A conversation continues by one request.
use Rattle.std.proofs.Common.{arith, ◌≡◌, ◌++◌, ◌∷◌, inl, inr, ℕ, Bool, true, false, List, [], Option, Some, Ok, Err, length, refl, sym, ap, subst, ◌∙◌, append_assoc, append-nil}
use Rattle.nbd_protocol.proofs.Common.{Appends, Consumes, Appends-nil, Appends-trans, Consumes-nil, Consumes-trans, Command, Request, Way, AnswersLookup, AnswersStatus, Conversation, Converses, Deals, Exchange, Exchanges, Talked, payload_count, payload_length, sent, told, way_of, DeviceView}
use Rattle.nbd_protocol.specs.declared.request.Command.TheVariants as C
use Rattle.nbd_protocol.specs.declared.way.Way.TheVariants as W
use Rattle.nbd_protocol.specs.Requests.{request_in}

-- ---- ways

pub nothing_sent : (a : Bool) (c : Command) (n : ℕ) → (way_of a c ≡ W.Payload → ⊥) → payload_count c n ≡ 0
nothing_sent a C.Write n h = absurd (h refl)
nothing_sent a _ n h = refl

pub is_write : (a : Bool) (c : Command) → way_of a c ≡ W.Payload → c ≡ C.Write
is_write a C.Write h = refl
is_write true C.BlockStatus h = absurd cc
is_write false C.BlockStatus h = absurd cc
is_write _ _ h = absurd cc

-- another way isn't that of a write
pub not_write : (a : Bool) (c : Command) (by : Way) → way_of a c ≡ by → (by ≡ W.Payload → ⊥) → c ≡ C.Write → ⊥
not_write a c by is other w = other (sym is ∙ ap (λ (x : Command). way_of a x) w)

pub length_written : (r : Request) → r.command ≡ C.Write → r.length ≡ payload_length r
length_written r w = sym (ap (λ (c : Command). payload_count c r.length) w)

-- ---- requests without a payload

-- the reply to a lookup is spelled in one way alone
pub lookup_as : {D : Type 0} (view : D → DeviceView) (Flushed Synced : D → D → Type 0) (s t : Bool) (r : Request) (payload reply : List ℕ) (old new : D)
    → AnswersLookup view Flushed Synced s r payload reply old new → AnswersLookup view Flushed Synced t r payload reply old new
lookup_as view Flushed Synced s t r payload reply old new a = record { found = a.found; told = a.told; answer = a.answer; refused = a.refused; looks_up = a.looks_up }

module _ {D : Type 0} (view : D → DeviceView) (Flushed Synced : D → D → Type 0) (structured : Bool) where
  pub status_any : (r : Request) (p q reply : List ℕ) (old new : D) → (r.command ≡ C.Write → ⊥) → AnswersStatus view Flushed Synced structured r p reply old new → AnswersStatus view Flushed Synced structured r q reply old new
  status_any r p q reply old new h s = grind arith

  -- ---- one more exchange

  converses_more : (allocation : Bool) (es : List Exchange) (e : Exchange) (a b c : D) → Converses view Flushed Synced structured allocation es a b → Exchanges view Flushed Synced structured allocation e b c
      → Converses view Flushed Synced structured allocation (es ++ e ∷ []) a c
  converses_more allocation [] e a b c same more = (c, subst (λ (x : D). Exchanges view Flushed Synced structured allocation e x c) same more, refl)
  converses_more allocation (x ∷ es) e a b c all more = (all.0, all.1, converses_more allocation es e all.0 b c all.2 more)

  sent_more : (es : List Exchange) (e : Exchange) → sent (es ++ e ∷ []) ≡ sent es ++ (e.head ++ e.payload)
  sent_more [] e = append-nil (e.head ++ e.payload)
  sent_more (x ∷ es) e = ap (λ (l : List ℕ). (x.head ++ x.payload) ++ l) (sent_more es e) ∙ sym (append_assoc (x.head ++ x.payload) (sent es) (e.head ++ e.payload))

  told_more : (es : List Exchange) (e : Exchange) → told (es ++ e ∷ []) ≡ told es ++ e.reply
  told_more [] e = append-nil e.reply
  told_more (x ∷ es) e = ap (λ (l : List ℕ). x.reply ++ l) (told_more es e) ∙ sym (append_assoc x.reply (told es) e.reply)

  module _ {R W : Type 0} (remaining : R → Option (List ℕ)) (contents : W → Option (List ℕ)) (allocation : Bool) where
    pub talked_start : (reader : R) (writer : W) (device : D) → Talked view Flushed Synced structured remaining contents allocation reader reader writer writer device device
    talked_start reader writer device = record { exchanges = []; talk = refl; heard = Consumes-nil (remaining reader); said = Appends-nil (contents writer) }

    pub talked_more : (r0 r1 r2 r3 : R) (w0 w1 w2 : W) (a b c : D) → Talked view Flushed Synced structured remaining contents allocation r0 r1 w0 w1 a b → (e : Exchange) → Exchanges view Flushed Synced structured allocation e b c
        → Consumes (remaining r1) (remaining r2) e.head → Consumes (remaining r2) (remaining r3) e.payload → Appends (contents w1) (contents w2) e.reply
        → Talked view Flushed Synced structured remaining contents allocation r0 r3 w0 w2 a c
    talked_more r0 r1 r2 r3 w0 w1 w2 a b c t e more head payload reply = record {
      exchanges = t.exchanges ++ e ∷ [];
      talk = converses_more allocation t.exchanges e a b c t.talk more;
      heard = subst (λ (l : List ℕ). Consumes (remaining r0) (remaining r3) l) (sym (sent_more t.exchanges e))
          (Consumes-trans (remaining r0) (remaining r1) (remaining r3) (sent t.exchanges) (e.head ++ e.payload) t.heard (Consumes-trans (remaining r1) (remaining r2) (remaining r3) e.head e.payload head payload));
      said = subst (λ (l : List ℕ). Appends (contents w0) (contents w2) l) (sym (told_more t.exchanges e)) (Appends-trans (contents w0) (contents w1) (contents w2) (told t.exchanges) e.reply t.said reply);
    }

    -- a request was read and dealt with
    pub dealt : (r0 r1 r2 r3 : R) (w0 w1 w2 : W) (a b c : D) (r : Request) → Talked view Flushed Synced structured remaining contents allocation r0 r1 w0 w1 a b
        → ((head : List ℕ) × (length head ≡ 28) × (request_in head ≡ Some r) × Consumes (remaining r1) (remaining r2) head)
        → (E : Type 0) → Deals view Flushed Synced structured remaining contents {E = E} (way_of allocation r.command) r r2 r3 w1 w2 b c (Ok tt)
        → Talked view Flushed Synced structured remaining contents allocation r0 r3 w0 w2 a c
    dealt r0 r1 r2 r3 w0 w1 w2 a b c r t h E (inl d) =
        talked_more r0 r1 r2 r3 w0 w1 w2 a b c t (record { head = h.0; request = r; payload = d.0; reply = d.3.0 }) (record { long = h.1; spelled = h.2; payload = d.1; answered = d.3.1 }) h.3 d.2 d.3.2
    dealt r0 r1 r2 r3 w0 w1 w2 a b c r t h E (inr d) = absurd d.0

    -- or was done, and not answered
    pub undealt : (r0 r1 r2 r3 : R) (w0 w1 w2 : W) (a b c : D) (r : Request) → Talked view Flushed Synced structured remaining contents allocation r0 r1 w0 w1 a b
        → ((head : List ℕ) × (length head ≡ 28) × (request_in head ≡ Some r) × Consumes (remaining r1) (remaining r2) head)
        → (E : Type 0) → (e : E) → Deals view Flushed Synced structured remaining contents {E = E} (way_of allocation r.command) r r2 r3 w1 w2 b c (Err e)
        → Conversation view Flushed Synced structured remaining contents allocation r0 w0 w2 a c
    undealt r0 r1 r2 r3 w0 w1 w2 a b c r t h E e (inl d) = record {
      reader_at = r1;
      writer_at = w1;
      at = b;
      talked = t;
      last = inr (record { head = h.0; request = r; payload = d.0; reply = d.3.0 }, record { long = h.1; spelled = h.2; payload = d.1; answered = d.3.1 });
    }
    undealt r0 r1 r2 r3 w0 w1 w2 a b c r t h E e (inr d) = record { reader_at = r1; writer_at = w1; at = b; talked = t; last = inl (d.1, d.2) }
