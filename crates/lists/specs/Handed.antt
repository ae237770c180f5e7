-- How the code answers: a descriptor's parts, or why it is refused.
use Rattle.std.specs.Prelude.{ℕ, Bool, true, false, Option, None, Some, Result, Ok, Err}
use Rattle.lists.specs.Descriptor.{Piece, Parts, Verdict, LiesIn}
use Rattle.lists.specs.Descriptor.Piece.{Bad, Absent, At, Alien}
use Rattle.lists.specs.Descriptor.Verdict.{Whole, Misshapen, Ownerless, ForeignEntry}
use Rattle.lists.specs.declared.descriptor.Extent.{Extent}
use Rattle.lists.specs.declared.descriptor.Found.{Found}
use Rattle.lists.specs.declared.descriptor.Descriptor.{Descriptor}
use Rattle.lists.specs.declared.descriptor.Refusal.{Refusal}
use Rattle.lists.specs.declared.descriptor.Refusal.TheVariants as refusal

-- ---- a part that an offset names

abbrev pub sound : Piece → Option Found
sound Bad = None
sound Absent = None
sound (At a e) = Some (record { place = record { from = a; to = e }; alien = false })
sound (Alien a e) = Some (record { place = record { from = a; to = e }; alien = true })

abbrev pub piece_result : Piece → Result (Option Found) Refusal
piece_result Bad = Err refusal.Misshapen
piece_result Absent = Ok None
piece_result (At a e) = Ok (sound (At a e))
piece_result (Alien a e) = Ok (sound (Alien a e))

abbrev pub place_in : Option Found → Extent
place_in None = record { from = 0; to = 0 }
place_in (Some f) = f.place

abbrev pub alien_in : Option Found → Bool
alien_in None = false
alien_in (Some f) = f.alien

-- ---- the whole

abbrev pub refused_by : Verdict → Descriptor → Result Descriptor Refusal
refused_by Whole d = Ok d
refused_by Misshapen d = Err refusal.Misshapen
refused_by Ownerless d = Err refusal.Ownerless
refused_by ForeignEntry d = Err refusal.ForeignEntry

abbrev pub handed : Parts → Result Descriptor Refusal
handed p =
    refused_by p.verdict (record { null = p.null; owner = p.owner; group = p.group; sacl = p.sacl; dacl = p.dacl })

-- each part lies inside the n bytes of its descriptor
pub record Within (n : ℕ) (p : Descriptor) : Type 0 where
  pub owner : LiesIn n p.owner
  pub group : LiesIn n p.group
  pub sacl : LiesIn n p.sacl
  pub dacl : LiesIn n p.dacl
