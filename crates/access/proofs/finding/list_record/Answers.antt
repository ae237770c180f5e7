-- `list_record` meets its contract: what listing a record comes to in a room that is long enough.
-- Assumes nothing.
use mathlib.Core.Path.{◌∙◌}
use native.Mathlib.Omega.{arith}
use Rattle.std.proofs.lemmas.Result.{err_from_is_err_and}
use Rattle.tokens.proofs.ConvertLaws.{listed_in_lem}
use Rattle.access.proofs.FindingsLaws.{token_number}
use Rattle.access.proofs.finding.list_record.Goals as goal

pub returns-in_err-list_in-clause-number : goal.returns-in_err-list_in-clause-number
returns-in_err-list_in-clause-number c =
    let p = err_from_is_err_and c.from_residual.result c.from_residual.ensures.1 in
    rw (p.1, p.2)
    (token_number c.in_err-list_in.field-0.0
    ∙ (listed_in_lem _ c.args.room.now _ _ c.requires c.in_err-list_in.ensures.value c.in_err-list_in.ensures.room_after (omega arith)).status)

pub returns-clause-number : goal.returns-clause-number
returns-clause-number c =
    (listed_in_lem _ c.args.room.now _ _ c.requires c.in_ok-list_in.ensures.value c.in_ok-list_in.ensures.room_after
    c.in_ok-list_in.ensures.length_in_bounds.0).status

pub returns-clause-listing : goal.returns-clause-listing
returns-clause-listing c =
    let o = listed_in_lem _ c.args.room.now _ _ c.requires c.in_ok-list_in.ensures.value c.in_ok-list_in.ensures.room_after
    c.in_ok-list_in.ensures.length_in_bounds.0 in
    record {
      long = o.long;
      bytes = o.bytes;
      place = o.place;
      within = omega (arith, c.in_ok-list_in.ensures.length_in_bounds.0, c.list_in.auto.room);
    }
