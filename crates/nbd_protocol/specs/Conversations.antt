-- The requests and replies after the negotiation, and what they do to the device.
use Rattle.std.specs.Prelude.{ℕ, ◌≡◌, ◌⊎◌, ◌==◌, ◌||◌, Bool, true, not, nat_lt, IsTrue, List, [], ◌∷◌, ◌++◌, length, Option, Some, Vec, Result, Ok, Err, IfOk, OnOk, if◌then◌else◌}
use Rattle.std.specs.Global.{Global}
use Rattle.std.specs.Io.KnownBytes.{Appends, Consumes}
use Rattle.nbd_protocol.specs.declared.device.Errno.{Errno}
use Rattle.nbd_protocol.specs.declared.device.Errno.TheVariants as E
use Rattle.nbd_protocol.specs.declared.replies.Extent.{Extent}
use Rattle.nbd_protocol.specs.declared.request.Command.{Command}
use Rattle.nbd_protocol.specs.declared.request.Command.TheVariants as C
use Rattle.nbd_protocol.specs.declared.request.Request.{Request}
use Rattle.nbd_protocol.specs.declared.way.Way.{Way}
use Rattle.nbd_protocol.specs.declared.way.Way.TheVariants as W
use Rattle.nbd_protocol.specs.Commands.{AreExtents, Does, IsLookedUp, MayDo, PersistsLast, Refused, is_done, most, persists}
use Rattle.nbd_protocol.specs.Devices.{Acts, DeviceView, Shows, Stays}
use Rattle.nbd_protocol.specs.Replies.{error_reply, extents_reply, read_reply, status_reply}
use Rattle.nbd_protocol.specs.Requests.{request_in}

-- How a command is answered. BLOCK_STATUS is answered with runs only if the client negotiated the context.
abbrev pub way_of : (allocation : Bool) → Command → Way
way_of allocation C.Read = W.Bytes
way_of allocation C.Write = W.Payload
way_of allocation C.BlockStatus = if allocation then W.Runs else W.Status
way_of allocation command = W.Status

-- The length of the payload after a request.
abbrev pub payload_count : Command → ℕ → ℕ
payload_count C.Write n = n
payload_count command n = 0

abbrev pub payload_length : Request → ℕ
payload_length r = payload_count r.command r.length

-- A request that was answered: the bytes of its header, the request that they encode, its payload, and the reply.
pub record Exchange : Type 0 where
  pub head : List ℕ
  pub request : Request
  pub payload : List ℕ
  pub reply : List ℕ

-- The bytes that the client sent in these exchanges.
abbrev pub sent : List Exchange → List ℕ
sent [] = []
sent (e ∷ es) = (e.head ++ e.payload) ++ sent es

-- The bytes of the replies in these exchanges.
abbrev pub told : List Exchange → List ℕ
told [] = []
told (e ∷ es) = e.reply ++ told es

-- The reply to BLOCK_STATUS.
abbrev pub lookup_reply : ℕ → Result (Vec Extent Global) Errno → List ℕ
lookup_reply cookie (Ok found) = extents_reply cookie found.items
lookup_reply cookie (Err e) = error_reply true cookie e

-- A reply that satisfies P was written, unless writing failed.
abbrev pub Says : {W E : Type 0} → (W → Option (List ℕ)) → (writer writer' : W) → Result (Unit {0}) E → (List ℕ → Type 0) → Type 0
Says contents writer writer' result P = (reply : List ℕ) × P reply × OnOk result (Appends (contents writer) (contents writer') reply)

module _ {D : Type 0} (view : D → DeviceView) (Flushed Synced : D → D → Type 0) (structured : Bool) where
  module _ (r : Request) (payload reply : List ℕ) (old new : D) where
    -- A read is answered with as many bytes of the disk as were requested, or with an error. The disk stays the same.
    pub record AnswersRead : Type 0 where
      pub status : Result (Unit {0}) Errno
      pub bytes : List ℕ
      pub told : reply ≡ read_reply structured r.cookie r.offset bytes status
      pub count : OnOk status (length bytes ≡ r.length)
      pub refused : Refused (view old) (r.length == 0 || nat_lt most r.length) r status
      pub reads : Acts (view old) (view new) (λ done. Shows (view old) r.offset bytes × Stays (view old) (view new)) (Stays (view old) (view new)) status

    -- BLOCK_STATUS is answered with the runs of the range, or with an error. The disk stays the same.
    pub record AnswersLookup : Type 0 where
      pub found : Result (Vec Extent Global) Errno
      pub told : reply ≡ lookup_reply r.cookie found
      pub answer : IfOk found (λ runs. IsLookedUp r runs.items)
      pub refused : Refused (view old) (r.length == 0) r found
      pub looks_up : Acts (view old) (view new) (λ runs. AreExtents (view old) r.offset runs.items × Stays (view old) (view new)) (Stays (view old) (view new)) found

    -- A request is answered with success or an error. FLUSH and requests with FUA succeed only after a flush and then a sync.
    pub record AnswersStatus : Type 0 where
      pub status : Result (Unit {0}) Errno
      pub told : reply ≡ status_reply structured r.cookie status
      pub refused : Refused (view old) (not (is_done r.command)) r status
      pub does : Acts (view old) (view new) (λ done. Does r.command r payload (view old) (view new)) (MayDo r.command r payload (view old) (view new)) status
      pub persisted : IsTrue (persists r) → OnOk status (PersistsLast Flushed Synced new)

    -- There was no memory for the payload, and nothing was done.
    pub record LacksMemory : Type 0 where
      pub told : reply ≡ status_reply structured r.cookie (Err E.NoMemory)
      pub same : new ≡ old

    -- The reply, and what was done, for each way to answer a request.
    abbrev pub Answered : Way → Type 0
    Answered W.Bytes = AnswersRead
    Answered W.Runs = AnswersLookup
    Answered W.Payload = AnswersStatus ⊎ LacksMemory
    Answered W.Status = AnswersStatus

  -- One exchange: the header's bytes encode the request, its payload has the right length, and it was answered.
  pub record Exchanges (allocation : Bool) (e : Exchange) (old new : D) : Type 0 where
    pub long : length e.head ≡ 28
    pub spelled : request_in e.head ≡ Some e.request
    pub payload : length e.payload ≡ payload_length e.request
    pub answered : Answered e.request e.payload e.reply old new (way_of allocation e.request.command)

  -- Exchanges, one after another.
  abbrev pub Converses : (allocation : Bool) → List Exchange → (old new : D) → Type 0
  Converses allocation [] old new = new ≡ old
  Converses allocation (e ∷ es) old new = (between : D) × Exchanges allocation e old between × Converses allocation es between new

  module _ {R W : Type 0} (remaining : R → Option (List ℕ)) (contents : W → Option (List ℕ)) where
    -- The bytes that were read are exactly these requests with their payloads, each was answered, and the replies were written.
    pub record Talked (allocation : Bool) (reader reader' : R) (writer writer' : W) (old new : D) : Type 0 where
      pub exchanges : List Exchange
      pub talk : Converses allocation exchanges old new
      pub heard : Consumes (remaining reader) (remaining reader') (sent exchanges)
      pub said : Appends (contents writer) (contents writer') (told exchanges)

    -- A conversation up to its end: after the answered requests nothing more was done or written, or one more request was done, whose reply may be missing or incomplete.
    pub record Conversation (allocation : Bool) (reader : R) (writer writer' : W) (old new : D) : Type 0 where
      pub reader_at : R
      pub writer_at : W
      pub at : D
      pub talked : Talked allocation reader reader_at writer writer_at old at
      pub last : ((new ≡ at) × (writer' ≡ writer_at)) ⊎ ((e : Exchange) × Exchanges allocation e at new)

    -- One request is handled: its payload is read and it is answered; or its payload can't be read, and nothing is done or written.
    abbrev pub Deals : {E : Type 0} → Way → Request → (reader reader' : R) → (writer writer' : W) → (old new : D) → Result (Unit {0}) E → Type 0
    Deals by r reader reader' writer writer' old new result =
        ((payload : List ℕ) × (length payload ≡ payload_length r) × Consumes (remaining reader) (remaining reader') payload
        × Says contents writer writer' result (λ reply. Answered r payload reply old new by))
        ⊎ (OnOk result ⊥ × (new ≡ old) × (writer' ≡ writer))

-- The negotiation succeeded: what was read and written in it, whether replies are structured, whether BLOCK_STATUS was negotiated, and the conversation after it.
pub record Served {D R W : Type 0} (view : D → DeviceView) (Flushed Synced : D → D → Type 0) (remaining : R → Option (List ℕ)) (contents : W → Option (List ℕ)) (reader : R) (writer writer' : W) (old new : D) : Type 0 where
  pub begun : R
  pub greeted : W
  pub hello : List ℕ
  pub greeting : List ℕ
  pub structured : Bool
  pub allocation : Bool
  pub heard : Consumes (remaining reader) (remaining begun) hello
  pub said : Appends (contents writer) (contents greeted) greeting
  pub conversation : Conversation view Flushed Synced structured remaining contents allocation begun greeted writer' old new
