-- Specifications whose nets and faults are as they should be, by computation.
use Rattle.std.proofs.Common.{◌≡◌, ℕ, true, false, List, [], ◌∷◌, drop, map, slice_get, take, option_map, codes, refl, Some, None, Ok, Err, inl, inr}
use Rattle.pipe_model.specs.declared.kind.Kind.{Kind}
use Rattle.pipe_model.specs.declared.kind.Kind.TheVariants.{ConsoleIn, ConsoleOut, Dam, Elastic, FanIn, FanOut, FileIn, FileOut, Hole, Literal, Locate}
use Rattle.pipe_model.specs.declared.range.Span.TheVariants.{Columns}
use Rattle.pipe_model.specs.declared.net.Net.{Net}
use Rattle.pipe_model.specs.declared.net.Ports.{Ports}
use Rattle.pipe_model.specs.declared.net.Strand.{Strand}
use Rattle.pipe_model.specs.Nets.{rendezvous}
use Rattle.stage_syntax.specs.Arg.{ArgText}
use Rattle.stage_syntax.specs.declared.fault.KindFault.TheVariants.{Unknown}
use Rattle.spec_scanner.specs.declared.piece.Piece.{Piece}
use Rattle.spec_scanner.specs.declared.piece.PieceKind.TheVariants.{Stage, Reference, Connector}
use Rattle.spec_scanner.specs.declared.fault.SpecFaultKind.TheVariants.{UnknownStage, NoSuchStream, NotFirst, SecondConsole, MisplacedConnector, SecondFile}
use Rattle.spec_scanner.specs.Faults.{fault}
use Rattle.net_graph.specs.Faults.{faults_of}
use Rattle.net_graph.specs.Nets.{net_of}
use Rattle.net_graph.specs.Numbered.{AreScanned}

abbrev no_argument : ArgText
no_argument = record { bytes = []; plain = []; places = []; end = 0 }

-- a stage, a labelled one with its name after the label, a later use and a connector, without their arguments
abbrev stage : List ℕ → ℕ → Piece
stage name place = record { label = None; uses = 0; name = name; name_place = place; place = place; arg = no_argument; kind = Stage }

abbrev labelled : ℕ → List ℕ → ℕ → ℕ → Piece
labelled label name place name_place = record { label = Some label; uses = 0; name = name; name_place = name_place; place = place; arg = no_argument; kind = Stage }

abbrev later : ℕ → ℕ → ℕ → Piece
later label uses place = record { label = Some label; uses = uses; name = []; name_place = place; place = place; arg = no_argument; kind = Reference }

abbrev connector : ℕ → Piece
connector place = record { label = None; uses = 0; name = codes "*.output.1:"; name_place = place; place = place; arg = no_argument; kind = Connector }

abbrev console : ℕ → Piece
console = stage (codes "Console")

abbrev locate : ℕ → Piece
locate = stage (codes "locate")

abbrev locates : List ℕ → Kind
locates text = Locate (record { span = Columns; first = 1; last = None }) (Some text)

-- console | a: locate /x/ | console ? a: | locate /y/

abbrev two : List (List Piece)
two = (console 0 ∷ (labelled 0 (codes "locate") 10 13 ∷ (console 26 ∷ []))) ∷ ((later 0 1 36 ∷ (locate 41 ∷ [])) ∷ [])

abbrev kinds_of_two : List Kind
kinds_of_two = ConsoleIn [] ∷ (locates (codes "x") ∷ (ConsoleOut ∷ (locates (codes "y") ∷ [])))

abbrev net_of_two : Net
net_of_two = net_of two kinds_of_two

none_of_two : faults_of two (map (λ kind. Ok kind) kinds_of_two) ≡ []
none_of_two = refl

kinds_in_two : map (λ (strand : Strand). strand.kind) net_of_two.strands ≡ kinds_of_two
kinds_in_two = refl

names_in_two : map (λ (strand : Strand). strand.name) net_of_two.strands ≡ (0 ∷ []) ∷ ((1 ∷ []) ∷ ((2 ∷ []) ∷ ((3 ∷ []) ∷ [])))
names_in_two = refl

links_in_two : net_of_two.links ≡ rendezvous 0 0 1 0 ∷ (rendezvous 1 0 2 0 ∷ (rendezvous 1 1 3 0 ∷ []))
links_in_two = refl

ports_in_two : option_map (λ (strand : Strand). strand.ports) (slice_get net_of_two.strands 1)
    ≡ Some (record { inputs = 1; outputs = 2; has_input = true ∷ []; has_output = true ∷ (true ∷ []) })
ports_in_two = refl

last_ports_in_two : option_map (λ (strand : Strand). strand.ports) (slice_get net_of_two.strands 3)
    ≡ Some (record { inputs = 1; outputs = 1; has_input = true ∷ []; has_output = false ∷ [] })
last_ports_in_two = refl

-- console | a: fanout | b: fanin | console ? a: | elastic | b:

abbrev buffered : List (List Piece)
buffered = (console 0 ∷ (labelled 0 (codes "fanout") 10 13 ∷ (labelled 1 (codes "fanin") 22 25 ∷ (console 33 ∷ [])))) ∷ ((later 0 1 43 ∷ (stage (codes "elastic") 48 ∷ (later 1 1 58 ∷ []))) ∷ [])

abbrev net_of_buffered : Net
net_of_buffered = net_of buffered (ConsoleIn [] ∷ (FanOut ∷ (FanIn ∷ (ConsoleOut ∷ (Elastic ∷ [])))))

-- ELASTIC has two strands, and its queue leads from the first to the second
names_in_buffered : map (λ (strand : Strand). strand.name) net_of_buffered.strands ≡ (0 ∷ []) ∷ ((1 ∷ []) ∷ ((2 ∷ []) ∷ ((3 ∷ []) ∷ ((4 ∷ []) ∷ ((4 ∷ []) ∷ [])))))
names_in_buffered = refl

parts_in_buffered : map (λ (strand : Strand). strand.part) net_of_buffered.strands ≡ 0 ∷ (0 ∷ (0 ∷ (0 ∷ (0 ∷ (1 ∷ [])))))
parts_in_buffered = refl

links_in_buffered : net_of_buffered.links
    ≡ rendezvous 0 0 1 0 ∷ (rendezvous 1 0 2 0 ∷ (rendezvous 2 0 3 0 ∷ (rendezvous 1 1 4 0 ∷ (rendezvous 5 0 2 1 ∷ (record { from = 4; output = 0; to = 5; input = 0; queue = true } ∷ [])))))
links_in_buffered = refl

abbrev one_each : Ports
one_each = record { inputs = 1; outputs = 1; has_input = true ∷ []; has_output = true ∷ [] }

ports_in_buffered : map (λ (strand : Strand). strand.ports) (drop 4 net_of_buffered.strands) ≡ one_each ∷ (one_each ∷ [])
ports_in_buffered = refl

-- console | locate /go/ | d: dam | hole ? literal x | d: | console

abbrev dammed : List (List Piece)
dammed = (console 0 ∷ (locate 10 ∷ (labelled 0 (codes "dam") 24 27 ∷ (stage (codes "hole") 33 ∷ [])))) ∷ ((stage (codes "literal") 40 ∷ (later 0 1 52 ∷ (console 57 ∷ []))) ∷ [])

abbrev net_of_dammed : Net
net_of_dammed = net_of dammed (ConsoleIn [] ∷ (locates (codes "go") ∷ (Dam ∷ (Hole ∷ (Literal (codes "x") ∷ (ConsoleOut ∷ []))))))

-- DAM has a strand for each of its two streams, and so later stages have higher numbers
names_in_dammed : map (λ (strand : Strand). strand.name) net_of_dammed.strands ≡ (0 ∷ []) ∷ ((1 ∷ []) ∷ ((2 ∷ []) ∷ ((2 ∷ []) ∷ ((3 ∷ []) ∷ ((4 ∷ []) ∷ ((5 ∷ []) ∷ []))))))
names_in_dammed = refl

parts_in_dammed : map (λ (strand : Strand). strand.part) net_of_dammed.strands ≡ 0 ∷ (0 ∷ (0 ∷ (1 ∷ (0 ∷ (0 ∷ (0 ∷ []))))))
parts_in_dammed = refl

links_in_dammed : net_of_dammed.links ≡ rendezvous 0 0 1 0 ∷ (rendezvous 1 0 2 0 ∷ (rendezvous 2 0 4 0 ∷ (rendezvous 5 0 3 0 ∷ (rendezvous 3 0 6 0 ∷ []))))
links_in_dammed = refl

ports_in_dammed : map (λ (strand : Strand). strand.ports) (take 2 (drop 2 net_of_dammed.strands)) ≡ one_each ∷ (one_each ∷ [])
ports_in_dammed = refl

scanned_two : AreScanned two
scanned_two = ((inl refl, refl), ((inr refl, refl), ((inl refl, refl), (record { label = 0; count = 0; label_is = refl; defined = refl; uses_is = refl }, ((inl refl, refl), tt)))))

-- console | nosuch | console
unknown : faults_of ((console 0 ∷ (stage (codes "nosuch") 10 ∷ (console 19 ∷ []))) ∷ []) (Ok (ConsoleIn []) ∷ (Err Unknown ∷ (Ok ConsoleOut ∷ []))) ≡ fault UnknownStage 10 ∷ []
unknown = refl

-- console | a: locate /x/ | console ? locate /y/ | a:
second_input : faults_of ((console 0 ∷ (labelled 0 (codes "locate") 10 13 ∷ (console 26 ∷ []))) ∷ ((locate 36 ∷ (later 0 1 49 ∷ [])) ∷ []))
    (map (λ kind. Ok kind) kinds_of_two) ≡ fault NoSuchStream 49 ∷ []
second_input = refl

-- a: locate /x/ ? a: | console ? a: | locate /y/
third_output : faults_of ((labelled 0 (codes "locate") 0 3 ∷ []) ∷ ((later 0 1 16 ∷ (console 21 ∷ [])) ∷ ((later 0 2 31 ∷ (locate 36 ∷ [])) ∷ [])))
    (Ok (locates (codes "x")) ∷ (Ok ConsoleOut ∷ (Ok (locates (codes "y")) ∷ []))) ≡ fault NoSuchStream 31 ∷ []
third_output = refl

-- a later use that connects nothing may be of any stream there is: a: locate /x/ ? a: ? a:
unconnected : faults_of ((labelled 0 (codes "locate") 0 3 ∷ []) ∷ ((later 0 1 16 ∷ []) ∷ ((later 0 2 21 ∷ []) ∷ []))) (Ok (locates (codes "x")) ∷ []) ≡ []
unconnected = refl

past_the_last : faults_of ((labelled 0 (codes "locate") 0 3 ∷ []) ∷ ((later 0 63 16 ∷ []) ∷ ((later 0 64 21 ∷ []) ∷ []))) (Ok (locates (codes "x")) ∷ []) ≡ fault NoSuchStream 21 ∷ []
past_the_last = refl

-- locate /x/ | console ? locate /y/ | console
two_write : faults_of ((locate 0 ∷ (console 13 ∷ [])) ∷ ((locate 23 ∷ (console 36 ∷ [])) ∷ []))
    (Ok (locates (codes "x")) ∷ (Ok ConsoleOut ∷ (Ok (locates (codes "y")) ∷ (Ok ConsoleOut ∷ [])))) ≡ fault SecondConsole 36 ∷ []
two_write = refl

-- console ? console
two_read : faults_of ((console 0 ∷ []) ∷ ((console 10 ∷ []) ∷ [])) (Ok (ConsoleIn []) ∷ (Ok (ConsoleIn []) ∷ [])) ≡ fault SecondConsole 10 ∷ []
two_read = refl

-- console | *.output.1:
not_issued : faults_of ((console 0 ∷ (connector 10 ∷ [])) ∷ []) (Ok (ConsoleIn []) ∷ []) ≡ fault MisplacedConnector 10 ∷ []
not_issued = refl

-- locate /x/ | < f
late_reader : faults_of ((locate 0 ∷ (stage (codes "<") 13 ∷ [])) ∷ []) (Ok (locates (codes "x")) ∷ (Ok (FileIn (codes "f") None) ∷ [])) ≡ fault NotFirst 13 ∷ []
late_reader = refl

-- < a | > b ? < c | > b
one_file_twice : faults_of ((stage (codes "<") 0 ∷ (stage (codes ">") 6 ∷ [])) ∷ ((stage (codes "<") 12 ∷ (stage (codes ">") 18 ∷ [])) ∷ []))
    (Ok (FileIn (codes "a") None) ∷ (Ok (FileOut (codes "b")) ∷ (Ok (FileIn (codes "c") None) ∷ (Ok (FileOut (codes "b")) ∷ [])))) ≡ fault SecondFile 18 ∷ []
one_file_twice = refl

-- < a | > b ? < a | > c
two_files : faults_of ((stage (codes "<") 0 ∷ (stage (codes ">") 6 ∷ [])) ∷ ((stage (codes "<") 12 ∷ (stage (codes ">") 18 ∷ [])) ∷ []))
    (Ok (FileIn (codes "a") None) ∷ (Ok (FileOut (codes "b")) ∷ (Ok (FileIn (codes "a") None) ∷ (Ok (FileOut (codes "c")) ∷ [])))) ≡ []
two_files = refl
