-- Laws of login, POST.
pub mod Laws
