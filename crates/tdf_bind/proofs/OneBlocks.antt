-- A model without a fault of types has one list of resolved blocks.
use Rattle.std.proofs.Common.{◌≡◌, ◌∙◌, ◌≤◌, ◌-◌, List, [], ◌∷◌, Option, Some, None, sym, ap, refl}
use Rattle.std.specs.List.{AllByRecursion, AllZip, flat_map}
use mathlib.Core.HLevel.{is_prop→PathP}
use native.Mathlib.Bridge.{le_prop}
use Rattle.tdf_fixed.specs.declared.format.Format.{Format}
use Rattle.tdf_bind.proofs.Formats.{IsFormatted, AreFormatted, formats_there}
use Rattle.tdf_bind_ports.specs.Ports.{Known, no_blocks, ports_of_composite, ports_of_de, ports_of_tdf, with_block}
use Rattle.tdf_bind_names.specs.Resolved.{AreBlocks, AreResolved, IsComposite, whole}
use Rattle.tdf_bind_names.specs.Signals.{Declared, IsFormatOf, IsSignal, declared_by, start_sample}
use Rattle.tdf_expr_symbols.specs.Names.{Names, format_of, globals_of}
use Rattle.tdf_expr_symbols.specs.Sound.{HasFormat}
use Rattle.tdf_expr.specs.Below.{type_faults}
use Rattle.tdf_lang_tree.specs.Pure.{PureComposite, PureGlobal, GShape, GTdf, GDe, GNet, PureTree}
use Rattle.tdf_lang_tree.specs.declared.shapes.Shape.{Shape}
use Rattle.tdf_bind_hierarchy.specs.Blocks.{BlockOf}
use Rattle.tdf_bind_hierarchy.specs.declared.blocks.SignalLine.{SignalLine}

-- two formats of equal parts: the facts that each keeps have one proof
same_format : (f g : Format) → f.signed ≡ g.signed → f.wl ≡ g.wl → f.iwl ≡ g.iwl → f.quant ≡ g.quant → f.over ≡ g.over → f ≡ g
same_format f g signed wl iwl quant over = λ i. record {
  signed = signed i;
  wl = wl i;
  iwl = iwl i;
  quant = quant i;
  over = over i;
  some_bits = is_prop→PathP (λ j. 1 ≤ wl j) (λ j. le_prop) f.some_bits g.some_bits i;
  few_bits = is_prop→PathP (λ j. wl j ≤ 64) (λ j. le_prop) f.few_bits g.few_bits i;
  whole_bits = is_prop→PathP (λ j. iwl j ≤ wl j) (λ j. le_prop) f.whole_bits g.whole_bits i;
  fraction_bits = is_prop→PathP (λ j. wl j - iwl j ≤ 63) (λ j. le_prop) f.fraction_bits g.fraction_bits i;
}

one_format : (shape : Shape) (f g : Format) → IsFormatOf shape f → IsFormatOf shape g → f ≡ g
one_format shape f g is are =
    same_format f g (is.signed ∙ sym are.signed) (is.wl ∙ sym are.wl) (is.iwl ∙ sym are.iwl) (is.quant ∙ sym are.quant) (is.over ∙ sym are.over)

same_line : (s t : SignalLine) → s.event ≡ t.event → s.name ≡ t.name → s.format ≡ t.format → s.start ≡ t.start → s ≡ t
same_line s t event name format start = λ i. record { event = event i; name = name i; format = format i; start = start i }

one_signal : (globals : Names) (d : Declared) (s t : SignalLine) → IsFormatted globals d → IsSignal globals d s → IsSignal globals d t → s ≡ t
one_signal globals d s t has is are =
    same_line s t (is.event ∙ sym are.event) (is.name ∙ sym are.name) same (is.start ∙ ap (λ f. start_sample f d.start) same ∙ sym are.start)
  where
    go : (o : Option Shape) → format_of globals d.format ≡ o → HasFormat o → s.format ≡ t.format
    go None e holds = absurd holds
    go (Some shape) e holds = one_format shape s.format t.format (is.format shape e holds) (are.format shape e holds)

    same : s.format ≡ t.format
    same = go (format_of globals d.format) refl has

one_signals : (globals : Names) (ds : List Declared) (ss ts : List SignalLine) → AllByRecursion (IsFormatted globals) ds → AllZip (IsSignal globals) ds ss → AllZip (IsSignal globals) ds ts → ss ≡ ts
one_signals globals [] [] [] has is are = refl
one_signals globals [] (s ∷ ss) ts has is are = absurd is
one_signals globals [] [] (t ∷ ts) has is are = absurd are
one_signals globals (d ∷ ds) [] ts has is are = absurd is
one_signals globals (d ∷ ds) (s ∷ ss) [] has is are = absurd are
one_signals globals (d ∷ ds) (s ∷ ss) (t ∷ ts) has is are =
    ap (λ h. h ∷ ss) (one_signal globals d s t has.0 is.0 are.0) ∙ ap (λ l. t ∷ l) (one_signals globals ds ss ts has.1 is.1 are.1)

same_block : (b c : BlockOf) → b.ports ≡ c.ports → b.signals ≡ c.signals → b.instances ≡ c.instances → b ≡ c
same_block b c ports signals instances = λ i. record { ports = ports i; signals = signals i; instances = instances i }

one_composite : (globals : Names) (known : Known) (block : PureComposite) (b c : BlockOf) → AreFormatted globals (GNet block) → IsComposite globals known block b → IsComposite globals known block c → b ≡ c
one_composite globals known block b c has is are =
    same_block b c (is.ports ∙ sym are.ports) (one_signals globals (flat_map declared_by block.members) b.signals c.signals has is.signals are.signals) (is.instances ∙ sym are.instances)

pub one_list : (globals : Names) (known : Known) (gs : List PureGlobal) (bs cs : List BlockOf) → AllByRecursion (AreFormatted globals) gs → AreBlocks globals known gs bs → AreBlocks globals known gs cs → bs ≡ cs
one_list globals known [] bs cs has is are = is ∙ sym are
one_list globals known (GShape t ∷ gs) bs cs has is are = one_list globals known gs bs cs has.1 is are
one_list globals known (GTdf block ∷ gs) [] cs has is are = absurd is
one_list globals known (GTdf block ∷ gs) (b ∷ bs) [] has is are = absurd are
one_list globals known (GTdf block ∷ gs) (b ∷ bs) (c ∷ cs) has is are =
    ap (λ h. h ∷ bs) (is.0 ∙ sym are.0) ∙ ap (λ l. c ∷ l) (one_list globals (with_block block.name (ports_of_tdf block) known) gs bs cs has.1 is.1 are.1)
one_list globals known (GDe block ∷ gs) [] cs has is are = absurd is
one_list globals known (GDe block ∷ gs) (b ∷ bs) [] has is are = absurd are
one_list globals known (GDe block ∷ gs) (b ∷ bs) (c ∷ cs) has is are =
    ap (λ h. h ∷ bs) (is.0 ∙ sym are.0) ∙ ap (λ l. c ∷ l) (one_list globals (with_block block.name (ports_of_de block) known) gs bs cs has.1 is.1 are.1)
one_list globals known (GNet block ∷ gs) [] cs has is are = absurd is
one_list globals known (GNet block ∷ gs) (b ∷ bs) [] has is are = absurd are
one_list globals known (GNet block ∷ gs) (b ∷ bs) (c ∷ cs) has is are =
    ap (λ h. h ∷ bs) (one_composite globals known block b c has.0 is.0 are.0) ∙ ap (λ l. c ∷ l) (one_list globals (with_block block.name (ports_of_composite block) known) gs bs cs has.1 is.1 are.1)

pub one_blocks : (model : PureTree) (bs cs : List BlockOf) → type_faults model ≡ [] → AreResolved model bs → AreResolved model cs → bs ≡ cs
one_blocks model bs cs none is are = one_list (globals_of model.globals) no_blocks (whole model) bs cs (formats_there model none) is are
