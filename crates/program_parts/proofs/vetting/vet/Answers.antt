use Rattle.std.proofs.Common.{◌≡◌, ◌↔◌, [], ap, subst}
use Rattle.program_parts.proofs.Common.{byte_at, IsConsistent, header, breach_lines, leak_lines}
use Rattle.program_parts.proofs.TakenIn.{vetted}
use Rattle.program_parts.proofs.vetting.vet.Goals as goal

pub returns-clause-vetted : goal.returns-clause-vetted
returns-clause-vetted g c = λ honest.
    let before = (g.S.Storage.view c.args.storage.now).contents in
    let found = c.in_ok-report.report in
    let same = c.load.ensures.reading.same honest in
    let still = c.load.ensures.reading.honest honest in
    record {
      breaches = subst (λ b. found.breaches.items ≡ breach_lines (header (byte_at b)) (byte_at b)) same (c.in_ok-report.ensures.breaches still);
      leaks = subst (λ b. found.leaks ≡ leak_lines (header (byte_at b)) (byte_at b)) same (c.in_ok-report.ensures.leaks still);
      size = ap (λ h. h.size) (c.in_ok-fields.ensures.fields honest);
      passing = vetted (byte_at before) c.args.max_size found.breaches.items c.in_ok-fields.fields (c.in_ok-fields.ensures.fields honest)
          (subst (λ b. (found.breaches.items ≡ []) ↔ IsConsistent (byte_at b)) same (c.in_ok-report.ensures.consistent still));
    }
