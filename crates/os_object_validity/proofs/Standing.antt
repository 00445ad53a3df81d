-- Units, instructions and sites that stand are what validity asks for, but for the heights.
use Rattle.std.proofs.Common.{◌≡◌, ℕ, zero, suc, ◌+◌, ◌-◌, ◌<◌, ◌≤◌, ◌⊎◌, inl, inr, true, not, ◌&&◌, List, [], ◌∷◌, length, get_or, pos, Option, Some, None, refl, sym, ap, subst, ◌∙◌, arith, sum_by}
use Rattle.std.specs.Prelude.{All, ◌==◌, nat_le, nat_lt, slice_get}
use Rattle.std.specs.List.{list_all}
use Rattle.std.proofs.lemmas.Bool.{and_parts, and_from, ltb-true, leb-true, le-leb, lt-ltb, eqb-true, eq-eqb, ne_eqb, both_ways, not-true, not_from_false, cases_lt}
use Rattle.std.proofs.lemmas.Option.{slice_get_within, slice_get-get_or}
use Rattle.os_code.proofs.Checked.{turn_from, all_from, from_list_all, at_there, function_from, implied}
use Rattle.os_code.specs.declared.instr.Instr.{Instr}
use Rattle.os_code.specs.declared.instr.Instr.TheVariants.{Push, ItemStore, Call, Spawn, Tick}
use Rattle.os_code.specs.declared.parts.Parts.{Parts}
use Rattle.os_code.specs.declared.site.Site.{Site}
use Rattle.os_code.specs.declared.site.SiteItem.{SiteItem}
use Rattle.os_code.specs.declared.unit.CodeUnit.{CodeUnit}
use Rattle.os_code.specs.Checking.{is_turn, is_function, called_of, spawned_of, ticked_of, stored_of}
use Rattle.os_code.specs.Effects.{jump_of, needs_turn, slots_named, item_of}
use Rattle.os_code.specs.IsValid.{HasInstr, HasRegions, HasTargets, HasFrames, HasSites, HasHeights, IsValid}
use Rattle.os_code.specs.Parts.{instr_at, unit_at, site_at, region_end, UnitKind, Main, Task, Function, kind_at}
use Rattle.os_code.proofs.Lists.{there}
use Rattle.os_code.proofs.Regions.{is_within-from}
use Rattle.os_code.proofs.Spans.{found}
use Rattle.os_object_validity.specs.Tables.{TasksDistinct, UnitStands, AllStand, target_stands, turn_stands, jump_stands, call_stands, names_stand, item_there, is_output, stores_into_output, items_fit_in, items_fit, kind_stands, place_stands, item_stands, args_are, args_of_are, site_stands, sites_stand_by, sites_stand}
use Rattle.os_object_validity.proofs.Tests.{implies-from, if_there-from, list_all-from, list_all-from_All, turn-is, called-is, spawned-is, ticked-is, stored-is}

-- the parts of what an instruction passes
record PlaceParts (code : Parts) (number : ℕ) (unit : CodeUnit) (place : ℕ) (instr : Instr) : Type 0 where
  pub turn : turn_stands code place instr ≡ true
  pub jump : jump_stands code unit place instr ≡ true
  pub call : call_stands code number instr ≡ true
  pub names : names_stand code unit instr ≡ true
  pub kind : kind_stands (kind_at code number) instr ≡ true

place_parts : (code : Parts) (number : ℕ) (unit : CodeUnit) (place : ℕ) (instr : Instr) → place_stands code number unit place instr ≡ true
    → PlaceParts code number unit place instr
place_parts code number unit place instr h =
    let a = and_parts _ _ h in
    let b = and_parts _ _ a.0 in
    let c = and_parts _ _ b.0 in
    let d = and_parts _ _ c.0 in
    record { turn = d.0; jump = d.1; call = c.1; names = b.1; kind = a.1 }

place-from : (code : Parts) (number : ℕ) (unit : CodeUnit) (place : ℕ) (instr : Instr) → PlaceParts code number unit place instr
    → place_stands code number unit place instr ≡ true
place-from code number unit place instr p = and_from _ _ (and_from _ _ (and_from _ _ (and_from _ _ p.turn p.jump) p.call) p.names) p.kind

-- a place of the code is in some unit
record Somewhere (code : Parts) (place : ℕ) (instr : Instr) : Type 0 where
  pub number : ℕ
  pub unit : CodeUnit
  pub has : HasInstr code number unit place instr

somewhere : (code : Parts) → HasRegions code → (place : ℕ) (instr : Instr) → instr_at code place ≡ Some instr → Somewhere code place instr
somewhere code regions place instr is =
    let low = slice_get_within code.instrs place instr is in
    let about = found code code.units place (regions.covered place low) in
    record { number = about.number; unit = about.unit; has = record { is_unit = about.is_unit; is_within = about.is_within; is_instr = is } }

module _ (code : Parts) (regions : HasRegions code) (stand : AllStand code) where
  parts : (number place : ℕ) (unit : CodeUnit) (instr : Instr) → HasInstr code number unit place instr → PlaceParts code number unit place instr
  parts number place unit instr has = place_parts code number unit place instr ((stand number unit has.is_unit).places place instr has)

  target : (number place to : ℕ) (unit : CodeUnit) (instr : Instr) → HasInstr code number unit place instr → jump_of instr ≡ Some to
      → target_stands code unit place to ≡ true
  target number place to unit instr has jumps = at_there (target_stands code unit place) (jump_of instr) to (parts number place unit instr has).jump jumps

  callee : (number place called : ℕ) (unit : CodeUnit) → HasInstr code number unit place (Call called)
      → nat_lt called number && is_function (kind_at code called) ≡ true
  callee number place called unit has = (parts number place unit (Call called) has).call

  pub targets_from : HasTargets code
  targets_from = record {
    jumps_within = λ number place to unit instr has jumps.
        (and_parts _ _ (and_parts _ _ (target number place to unit instr has jumps)).0).0;
    jumps_back_to_turns = λ number place to unit instr has jumps back.
        turn_from (instr_at code to) (implied (nat_le to place) (is_turn (instr_at code to)) (and_parts _ _ (and_parts _ _ (target number place to unit instr has jumps)).0).1 (le-leb to place back));
    turns_before = λ place instr is need.
        let at = somewhere code regions place instr is in
        turn_from (instr_at code (place - 1)) (implied (needs_turn instr) (is_turn (instr_at code (place - 1))) (parts at.number place at.unit instr at.has).turn need);
    no_jumps_to_calls = λ place to instr target_instr is jumps there_is.
        let at = somewhere code regions place instr is in
        not-true (needs_turn target_instr) (at_there (λ (i : Instr). not (needs_turn i)) (instr_at code to) target_instr
        (and_parts _ _ (target at.number place to at.unit instr at.has jumps)).1 there_is);
    calls_smaller = λ number place called unit has. ltb-true called number (and_parts _ _ (callee number place called unit has)).0;
    calls_functions = λ place called is.
        let at = somewhere code regions place (Call called) is in
        function_from (kind_at code called) (and_parts _ _ (callee at.number place called at.unit at.has)).1;
  }

  pub frames_from : sum_by (λ (unit : CodeUnit). unit.slots) code.units ≤ 2097152 → HasFrames code
  frames_from small = record {
    stacks_small = λ number unit is. leb-true _ _ (and_parts _ _ (stand number unit is).frame).0;
    slots_small = small;
    args_in_slots = λ number unit is. leb-true _ _ (and_parts _ _ (stand number unit is).frame).1;
    slots_there = λ number place unit instr has. leb-true _ _ (and_parts _ _ (and_parts _ _ (parts number place unit instr has).names).0).0;
  }

  pub record SiteParts (main : CodeUnit) (site : Site) : Type 0 where
    pub no_main : not (site.unit == code.main) ≡ true
    pub inside : nat_lt site.unit (length code.units) ≡ true
    pub args : args_of_are code site ≡ true
    pub items : nat_le (length site.items) 8 ≡ true
    pub few : nat_le (length site.captured) 64 ≡ true
    pub captured : list_all (λ slot. nat_lt slot main.slots) site.captured ≡ true
    pub named : list_all (item_stands code main) site.items ≡ true

  site_parts : (main : CodeUnit) (site : Site) → site_stands code main site ≡ true → SiteParts main site
  site_parts main site h =
      let a = and_parts _ _ h in
      let b = and_parts _ _ a.0 in
      let c = and_parts _ _ b.0 in
      let d = and_parts _ _ c.0 in
      let e = and_parts _ _ d.0 in
      let f = and_parts _ _ e.0 in
      record { no_main = f.0; inside = f.1; args = e.1; items = d.1; few = c.1; captured = b.1; named = a.1 }

  items_of_kind : (number place : ℕ) (unit : CodeUnit) (instr : Instr) (site : Site) → HasInstr code number unit place instr → kind_at code number ≡ Task site
      → items_fit_in site.items instr ≡ true
  items_of_kind number place unit instr site has task =
      ap (λ (kind : UnitKind). items_fit kind instr) (sym task) ∙ (and_parts _ _ (parts number place unit instr has).kind).1

  pub sites_from : sites_stand code ≡ true → TasksDistinct code → HasSites code
  sites_from h distinct = by_main (unit_at code code.main) refl (and_parts _ _ h).1
    where
      streams : (nat_le 2 code.streams ≡ true) × (nat_le code.streams 65538 ≡ true)
      streams = and_parts _ _ (and_parts _ _ (and_parts _ _ h).0).0

      by_main : (o : Option CodeUnit) → unit_at code code.main ≡ o → sites_stand_by code o ≡ true → HasSites code
      by_main None is by = cc
      by_main (Some main) is by = record {
        main_there = slice_get_within code.units code.main main is;
        main_no_task = λ number site at same.
            both_ways (site.unit == code.main) (not-true (site.unit == code.main) (part number site at).no_main) (eq-eqb site.unit code.main same);
        main_args = λ unit also. let same = same_main unit also in
            ap (λ (u : CodeUnit). u.args) (sym same) ∙ eqb-true main.args 1 (and_parts (main.args == 1) _ by).0;
        tasks_there = λ number site at. ltb-true site.unit (length code.units) (part number site at).inside;
        tasks_distinct = distinct;
        tasks_args = λ number site unit at also.
            eqb-true unit.args (length site.captured) (at_there (args_are (length site.captured)) (unit_at code site.unit) unit (part number site at).args also);
        captured_there = λ number site unit at also.
            subst (λ (u : CodeUnit). All (λ slot. slot < u.slots) site.captured) (same_main unit also)
            (all_from (λ slot. nat_lt slot main.slots) (λ slot. slot < main.slots) site.captured (part number site at).captured (λ slot e. ltb-true slot main.slots e));
        windows_there = λ number site unit at also.
            subst (λ (u : CodeUnit). All (λ (item : SiteItem). (slot : ℕ) → item.window ≡ Some slot → slot < u.slots) site.items) (same_main unit also)
            (all_from (item_stands code main) (λ (item : SiteItem). (slot : ℕ) → item.window ≡ Some slot → slot < main.slots) site.items
            (part number site at).named (λ item e slot has. ltb-true slot main.slots (at_there (λ k. nat_lt k main.slots) item.window slot (and_parts _ _ e).1 has)));
        items_few = λ number site at. leb-true (length site.items) 8 (part number site at).items;
        captured_few = λ number site at. leb-true (length site.captured) 64 (part number site at).few;
        items_there = λ number place item unit instr site has task named.
            ltb-true item (length site.items) (at_there (λ k. nat_lt k (length site.items)) (item_of instr) item
            (and_parts _ _ (items_of_kind number place unit instr site has task)).0 named);
        stores_are_outputs = λ number place item line unit site named has task at.
            at_there (λ (n : SiteItem). n.write) (slice_get site.items item) named
            (and_parts (item_there site.items (ItemStore item line)) (stores_into_output site.items (ItemStore item line)) (items_of_kind number place unit (ItemStore item line) site has task)).1 at;
        spawns_there = λ place number is.
            let at = somewhere code regions place (Spawn number) is in
            ltb-true number (length code.sites) (and_parts _ _ (and_parts _ _ (parts at.number place at.unit (Spawn number) at.has).names).0).1;
        streams_enough = leb-true 2 code.streams streams.0;
        streams_few = leb-true code.streams 65538 streams.1;
        item_streams = λ number site at.
            all_from (item_stands code main) (λ (item : SiteItem). item.stream < code.streams) site.items (part number site at).named
            (λ item e. ltb-true item.stream code.streams (and_parts _ _ e).0);
        tick_streams = λ place stream is.
            let at = somewhere code regions place (Tick stream) is in
            ltb-true stream code.streams (and_parts _ _ (parts at.number place at.unit (Tick stream) at.has).names).1;
        kinds_fit = λ number place unit instr has. (and_parts _ _ (parts number place unit instr has).kind).0;
      }
        where
          same_main : (unit : CodeUnit) → unit_at code code.main ≡ Some unit → main ≡ unit
          same_main unit also = let e : Some main ≡ Some unit = sym is ∙ also in cc

          part : (number : ℕ) (site : Site) → site_at code number ≡ Some site → SiteParts main site
          part number site at = site_parts main site (from_list_all (site_stands code main) code.sites number site (and_parts (main.args == 1) _ by).1 at)

pub valid_from : (code : Parts) → sites_stand code ≡ true → HasRegions code → TasksDistinct code → AllStand code → HasHeights code → IsValid code
valid_from code h regions distinct stand heights = record {
  regions = regions;
  targets = targets_from code regions stand;
  frames = frames_from code regions stand (leb-true _ _ (and_parts _ _ (and_parts _ _ h).0).1);
  sites = sites_from code regions stand h distinct;
  heights = heights;
}

-- and what is valid stands
module _ (code : Parts) (valid : IsValid code) where
  place_of : (number place : ℕ) (unit : CodeUnit) (instr : Instr) → HasInstr code number unit place instr → place_stands code number unit place instr ≡ true
  place_of number place unit instr has = place-from code number unit place instr (record {
    turn = implies-from (needs_turn instr) (is_turn (instr_at code (place - 1)))
        (λ need. turn-is (instr_at code (place - 1)) (valid.targets.turns_before place instr has.is_instr need));
    jump = if_there-from (target_stands code unit place) (jump_of instr) (λ to jumps.
        and_from _ _ (and_from _ _ (valid.targets.jumps_within number place to unit instr has jumps)
        (implies-from (nat_le to place) (is_turn (instr_at code to)) (λ back. turn-is (instr_at code to) (valid.targets.jumps_back_to_turns number place to unit instr has jumps (leb-true to place back)))))
        (if_there-from (λ (i : Instr). not (needs_turn i)) (instr_at code to) (λ i is.
        not_from_false (needs_turn i) (valid.targets.no_jumps_to_calls place to instr i has.is_instr jumps is))));
    call = if_there-from (λ called. nat_lt called number && is_function (kind_at code called)) (called_of instr) (λ called is.
        let same = called-is instr called is in
        let at : HasInstr code number unit place (Call called) = subst (λ (i : Instr). HasInstr code number unit place i) same has in
        and_from _ _ (lt-ltb called number (valid.targets.calls_smaller number place called unit at))
        (ap is_function (valid.targets.calls_functions place called at.is_instr)));
    names = and_from _ _ (and_from _ _ (le-leb (slots_named instr) unit.slots (valid.frames.slots_there number place unit instr has))
        (if_there-from (λ site. nat_lt site (length code.sites)) (spawned_of instr) (λ site is.
        lt-ltb site (length code.sites) (valid.sites.spawns_there place site (has.is_instr ∙ ap (λ (i : Instr). Some i) (spawned-is instr site is))))))
        (if_there-from (λ stream. nat_lt stream code.streams) (ticked_of instr) (λ stream is.
        lt-ltb stream code.streams (valid.sites.tick_streams place stream (has.is_instr ∙ ap (λ (i : Instr). Some i) (ticked-is instr stream is)))));
    kind = and_from _ _ (valid.sites.kinds_fit number place unit instr has) (by_kind (kind_at code number) refl);
  })
    where
      by_kind : (kind : UnitKind) → kind_at code number ≡ kind → items_fit kind instr ≡ true
      by_kind Main is = refl
      by_kind Function is = refl
      by_kind (Task site) is = and_from _ _
          (if_there-from (λ item. nat_lt item (length site.items)) (item_of instr) (λ item named.
          lt-ltb item (length site.items) (valid.sites.items_there number place item unit instr site has is named)))
          (if_there-from (is_output site.items) (stored_of instr) (λ item stored.
          if_there-from (λ (named : SiteItem). named.write) (slice_get site.items item) (λ named at.
          let store = stored-is instr item stored in
          valid.sites.stores_are_outputs number place item store.line unit site named (subst (λ (i : Instr). HasInstr code number unit place i) store.is has) is at)))

  pub all_stand : AllStand code
  all_stand number unit is = record {
    frame = and_from _ _ (le-leb _ _ (valid.frames.stacks_small number unit is)) (le-leb _ _ (valid.frames.args_in_slots number unit is));
    places = λ place instr has. place_of number place unit instr has;
  }

  pub sites_of : sites_stand code ≡ true
  sites_of =
      let main = there code.units code.main valid.sites.main_there in
      and_from _ _ (and_from _ _ (and_from _ _ (le-leb 2 code.streams valid.sites.streams_enough) (le-leb code.streams 65538 valid.sites.streams_few))
      (le-leb _ _ valid.frames.slots_small))
      (ap (sites_stand_by code) main.1 ∙ and_from (main.0.args == 1) (list_all (site_stands code main.0) code.sites) (eq-eqb main.0.args 1 (valid.sites.main_args main.0 main.1))
      (list_all-from (site_stands code main.0) code.sites (λ number site at. site_of main.0 main.1 number site at)))
    where
      site_of : (main : CodeUnit) → unit_at code code.main ≡ Some main → (number : ℕ) (site : Site) → site_at code number ≡ Some site → site_stands code main site ≡ true
      site_of main is number site at =
          and_from _ _ (and_from _ _ (and_from _ _ (and_from _ _ (and_from _ _ (and_from _ _
          (not_from_false (site.unit == code.main) (ne_eqb site.unit code.main (valid.sites.main_no_task number site at)))
          (lt-ltb site.unit (length code.units) (valid.sites.tasks_there number site at)))
          (if_there-from (args_are (length site.captured)) (unit_at code site.unit) (λ unit also. eq-eqb unit.args (length site.captured) (valid.sites.tasks_args number site unit at also))))
          (le-leb (length site.items) 8 (valid.sites.items_few number site at)))
          (le-leb (length site.captured) 64 (valid.sites.captured_few number site at)))
          (list_all-from_All (λ slot. nat_lt slot main.slots) (λ slot. slot < main.slots) site.captured (valid.sites.captured_there number site main at is) (λ slot low. lt-ltb slot main.slots low)))
          (list_all-from (item_stands code main) site.items (λ k item found_at. and_from _ _
          (lt-ltb item.stream code.streams (each (λ (i : SiteItem). i.stream < code.streams) site.items (valid.sites.item_streams number site at) k item found_at))
          (if_there-from (λ slot. nat_lt slot main.slots) item.window (λ slot window.
          lt-ltb slot main.slots (each (λ (i : SiteItem). (s : ℕ) → i.window ≡ Some s → s < main.slots) site.items (valid.sites.windows_there number site main at is) k item found_at slot window)))))
        where
          each : (P : SiteItem → Type 0) (items : List SiteItem) → All P items → (k : ℕ) (item : SiteItem) → slice_get items k ≡ Some item → P item
          each P [] all k item e = cc
          each P (one ∷ items) all zero item e = let same : one ≡ item = cc in subst P same (all 0 item (omega arith))
          each P (one ∷ items) all (suc k) item e = each P items (λ j d low. all (suc j) d (omega arith)) k item e

-- one more place of a unit, and one more unit
pub place_more : (code : Parts) (number : ℕ) (unit : CodeUnit) (instrs : List Instr) (at : ℕ) → instrs ≡ code.instrs → at < length instrs
    → place_stands code number unit at (get_or instrs at (Push (pos 0))) ≡ true
    → ((place : ℕ) (instr : Instr) → unit.start ≤ place → place < at → instr_at code place ≡ Some instr → place_stands code number unit place instr ≡ true)
    → (place : ℕ) (instr : Instr) → unit.start ≤ place → place < at + 1 → instr_at code place ≡ Some instr → place_stands code number unit place instr ≡ true
place_more code number unit instrs at same inside here before place instr low high is = by_order (cases_lt place at)
  where
    by_order : (place < at) ⊎ (at ≤ place) → place_stands code number unit place instr ≡ true
    by_order (inl less) = before place instr low less is
    by_order (inr more) =
        let e : place ≡ at = omega arith in
        let read : Some (get_or instrs at (Push (pos 0))) ≡ Some instr =
        sym (slice_get-get_or instrs at (Push (pos 0)) inside) ∙ ap (λ (l : List Instr). slice_get l at) same ∙ ap (instr_at code) (sym e) ∙ is in
        let instr_is : get_or instrs at (Push (pos 0)) ≡ instr = cc in
        ap (λ (p : ℕ). place_stands code number unit p instr) e ∙ ap (λ (i : Instr). place_stands code number unit at i) (sym instr_is) ∙ here

pub instr_read : (code : Parts) (number : ℕ) (unit : CodeUnit) (instrs : List Instr) (at : ℕ) → instrs ≡ code.instrs → at < length instrs
    → unit_at code number ≡ Some unit → unit.start ≤ at → at < region_end code unit → HasInstr code number unit at (get_or instrs at (Push (pos 0)))
instr_read code number unit instrs at same inside is_unit low high = record {
  is_unit = is_unit;
  is_within = is_within-from code unit at low high;
  is_instr = ap (λ (l : List Instr). slice_get l at) (sym same) ∙ slice_get-get_or instrs at (Push (pos 0)) inside;
}

abbrev no_unit : CodeUnit
no_unit = record { start = 0; args = 0; slots = 0; stack = 0 }

pub unit_more : (code : Parts) (units : List CodeUnit) (at : ℕ) → units ≡ code.units → at < length units → UnitStands code at (get_or units at no_unit)
    → ((number : ℕ) (unit : CodeUnit) → number < at → unit_at code number ≡ Some unit → UnitStands code number unit)
    → (number : ℕ) (unit : CodeUnit) → number < at + 1 → unit_at code number ≡ Some unit → UnitStands code number unit
unit_more code units at same inside here before number unit high is = by_order (cases_lt number at)
  where
    by_order : (number < at) ⊎ (at ≤ number) → UnitStands code number unit
    by_order (inl less) = before number unit less is
    by_order (inr more) =
        let e : at ≡ number = omega arith in
        let read : Some (get_or units at no_unit) ≡ Some unit =
        sym (slice_get-get_or units at no_unit inside) ∙ ap (λ (l : List CodeUnit). slice_get l at) same ∙ ap (unit_at code) e ∙ is in
        let unit_is : get_or units at no_unit ≡ unit = cc in
        subst (λ (n : ℕ). UnitStands code n unit) e (subst (λ (u : CodeUnit). UnitStands code at u) unit_is here)
