use Rattle.nbd_protocol.proofs.Common.{inl, inr, refl}
use Rattle.nbd_protocol.proofs.serving.talk.Goals as goal

pub returns-in_err-agreed : goal.returns-in_err-agreed
returns-in_err-agreed g c = inl refl

pub returns-in-Some : goal.returns-in-Some
returns-in-Some g c = let k = c.in_ok-agreed.ensures in inr (record {
  begun = c.negotiate.new.reader;
  greeted = c.negotiate.new.writer;
  hello = k.0;
  greeting = k.1;
  structured = c.in-Some.agreed.structured;
  allocation = c.in-Some.agreed.allocation;
  heard = k.2;
  said = k.3;
  conversation = c.answer_all.ensures;
})

pub returns-in-None : goal.returns-in-None
returns-in-None g c = inl refl
