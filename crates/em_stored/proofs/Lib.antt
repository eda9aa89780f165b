-- The laws of a machine's form. The folders here are the proofs of functions, by the modules of src of the same names.
--
-- A copy of a FIFO that lets go of its frames one after another (`put_fifo`): FifoLaws
-- A list that is written thing by thing, memory that is written page by page, and two things, one behind the other
-- (`put_wire`, `put_fifo`, `put_memory`, `put_body`): FormLaws
-- What was stored passes each test of its front and end (`a_stored_machine_has_no_fault`): FrontLaws
-- What the parts of a machine say of themselves (`is_machine`): KnownLaws
-- Each form is read in one way alone, whatever stands behind it: OneLaws
-- So a machine's octets are those of no other one (`a_stored_machine_is_one`): StoredLaws, over OneLaws
pub mod FifoLaws
pub mod FormLaws
pub mod FrontLaws
pub mod KnownLaws
pub mod OneLaws
pub mod StoredLaws
