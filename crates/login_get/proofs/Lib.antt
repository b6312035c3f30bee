-- Laws of login, GET.
pub mod Laws
